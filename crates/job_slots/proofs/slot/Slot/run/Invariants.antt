use Rattle.std.proofs.Common.{◌≡◌, ℕ}
use Rattle.job_steps.specs.Frames.{IsInnermost}
use Rattle.job_steps.specs.States.{ruled}
use Rattle.job_steps.specs.Tracks.{functions_of}
use Rattle.job_slots.proofs.Standings.{IsOnRun, turns_left}
use Rattle.job_slots.proofs.slot.Slot.run.Given as goal

abbrev pub invariant-loop-self : goal.invariant-loop-self
invariant-loop-self g l =
    (steps : ℕ) × IsOnRun l.turn.number (ruled l.turn.rule l.job) l.fn.self l.fn.blocks steps l.self l.blocks
    × (l.desk ≡ l.fn.desk) × IsInnermost (functions_of l.job.verified) l.self.trace.frames l.function

abbrev pub decreases-loop-self : goal.decreases-loop-self
decreases-loop-self g l = turns_left (ruled l.turn.rule l.job) l.function l.self
