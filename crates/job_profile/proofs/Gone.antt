-- How far a run has come that executes a number of instructions.
use Rattle.std.proofs.Common.{◌≡◌, ℕ, suc, ◌+◌, arith}
use Rattle.job_steps.specs.Runs.{state_after, progress_from}
use Rattle.job_steps.specs.States.{Task}
use Rattle.job_profile.specs.Moves.{IsOnRun}
use Rattle.job_profile.specs.Walks.{HasCome, HasGoneOn, RunState, progress_of}

-- a step more
pub further : (task : Task) (n : ℕ) {mid new : RunState} → HasCome task (state_after task n) mid →
    HasCome mid.task (progress_from mid.task (progress_of mid)) new → HasCome task (state_after task (suc n)) new
further task n h e = grind arith

pub first_gone : {inside r : RunState} → IsOnRun inside.task (progress_of inside) → inside ≡ r → HasGoneOn 0 r r
first_gone h view = grind arith

pub gone_by : {old : RunState} {count : ℕ} {mid new : RunState} → HasGoneOn count old mid →
    HasCome mid.task (progress_from mid.task (progress_of mid)) new → HasGoneOn (count + 1) old new
gone_by h e = record { from = h.from; was = h.was; come = grind arith }
