-- How many instructions the jobs of a machine have executed together, and what events make of that.
use Rattle.std.specs.Prelude.{◌≡◌, ℕ, ◌+◌, ◌*◌, ◌≤◌, Bool, true, false, length, All, Some}
use Rattle.vcode_base.specs.declared.limits.TheConstants.{MOST_BUDGET}
use Rattle.job_steps.specs.declared.event.Event.{Event}
use Rattle.job_steps.specs.declared.event.Event.TheVariants.{Finish}
use Rattle.job_steps.specs.EventLaws.{IsVerified, AreKept}
use Rattle.job_steps.specs.Standings.{InFlight, of_job, sum_over, executed_at}
use Rattle.job_machine.specs.Machines.{MachineState, queue_of, machine_after, recalled, Leads, told}

-- the sum of the executed counts of all jobs
abbrev pub executed_sum : MachineState → ℕ
executed_sum m = sum_over executed_at m.tasks m.standings

-- each job is verified, and is where its run alone leads
pub record IsKept (m : MachineState) : Type 0 where
  pub verified : All IsVerified m.tasks
  pub kept : AreKept m.region m.tasks (queue_of m)

abbrev pub is_finish : Event → Bool
is_finish (Finish job) = true
is_finish event = false

-- no event but a finish changes the sum
abbrev pub OthersCountNothing : Type 0
OthersCountNothing =
    (m : MachineState) → IsKept m → (event : Event) → is_finish event ≡ false →
    executed_sum (machine_after event m) ≡ executed_sum m

-- The finish of a job that was in flight after `step` instructions leaves it with at least as many, and raises the sum
-- by the difference.
pub record RaisesByItsJob (m : MachineState) (job step : ℕ) : Type 0 where
  pub count : ℕ
  pub count_is : told executed_at job (machine_after (Finish job) m) ≡ Some count
  pub no_fewer : step ≤ count
  pub sum_is : executed_sum (machine_after (Finish job) m) + step ≡ executed_sum m + count

abbrev pub FinishesRaise : Type 0
FinishesRaise =
    (m : MachineState) → IsKept m → (job step : ℕ) → of_job job m.standings ≡ Some (InFlight step) →
    RaisesByItsJob m job step

-- to give up steps that have begun doesn't change the sum
abbrev pub RecallsCountNothing : Type 0
RecallsCountNothing = (m : MachineState) → executed_sum (recalled m) ≡ executed_sum m

-- events never lower the sum
abbrev pub EventsKeepCounts : Type 0
EventsKeepCounts = (old new : MachineState) → IsKept old → Leads old new → executed_sum old ≤ executed_sum new

-- each job executes at most the greatest budget
abbrev pub CountsAreWithin : Type 0
CountsAreWithin = (m : MachineState) → IsKept m → executed_sum m ≤ length m.tasks * MOST_BUDGET

-- the same jobs by the same rule, which have executed no less
pub record Continues (old new : MachineState) : Type 0 where
  pub rule : new.rule ≡ old.rule
  pub tasks : new.tasks ≡ old.tasks
  pub no_less : executed_sum old ≤ executed_sum new
