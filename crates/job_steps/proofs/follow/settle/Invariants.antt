use Rattle.std.proofs.Common.{◌≡◌, List}
use Rattle.vcode_reader.specs.Trees.{Function}
use Rattle.job_steps.specs.Frames.{IsInnermost, function_in}
use Rattle.job_steps.proofs.Following.{StandToo, lines_left}
use Rattle.job_steps.proofs.follow.settle.Given as goal

abbrev pub invariant-loop-frame : goal.invariant-loop-frame
invariant-loop-frame g l =
    (l.frames.room ≡ l.fn.frames.room) × (function_in l.frames.entries ≡ function_in l.fn.frames.entries)
    × ((functions : List Function) → IsInnermost functions l.fn.frames.entries l.function
    → StandToo functions l.fn.frames.entries l.frames.entries)

abbrev pub decreases-loop-frame : goal.decreases-loop-frame
decreases-loop-frame g l = lines_left l.function l.frames.entries
