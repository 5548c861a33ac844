use Rattle.std.proofs.Common.{◌≡◌, ◌+◌, ℕ}
use Rattle.job_steps.specs.Frames.{IsInnermost}
use Rattle.job_steps.specs.States.{ruled}
use Rattle.job_steps.specs.Tracks.{functions_of}
use Rattle.job_slots.proofs.Standings.{IsOnRun, turns_left}
use Rattle.job_slots.proofs.slot.Slot.run_for.Given as goal

abbrev pub invariant-loop-left : goal.invariant-loop-left
invariant-loop-left g l =
    (steps : ℕ) × IsOnRun l.turn.number (ruled l.turn.rule l.job) l.fn.self l.fn.blocks steps l.self l.blocks
    × (l.desk ≡ l.fn.desk) × IsInnermost (functions_of l.job.verified) l.self.trace.frames l.function
    × (steps + l.left ≡ l.fn.count)

abbrev pub decreases-loop-left : goal.decreases-loop-left
decreases-loop-left g l = turns_left (ruled l.turn.rule l.job) l.function l.self
