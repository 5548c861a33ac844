-- What events of a job make of a machine, by where the job stands.
use Rattle.std.proofs.Common.{List, ◌≡◌, ℕ, zero, suc, Some, ◌∙◌, ap, refl, arith}
use Rattle.std.proofs.lemmas.List.{set-set}
use Rattle.std.proofs.lemmas.Option.{none-some}
use Rattle.job_steps.specs.declared.event.Event.{Event}
use Rattle.job_steps.specs.declared.event.Event.TheVariants.{Begin, Finish}
use Rattle.job_steps.specs.Events.{job_of, named_job, after_event, next_standing}
use Rattle.job_steps.specs.Standings.{Standing, Queue, of_job, with_standing}
use Rattle.job_steps.specs.States.{Task}
use Rattle.job_slots.specs.Answers.{or_same, standing_after_step, StepsLead}
use Rattle.job_machine.specs.Machines.{MachineState, machine_after, with_queue, StepsLeadIn, after_step, is_running}
use Rattle.job_machine.proofs.Places.{set_back}
use Rattle.job_machine.proofs.RunningOut.{of_with}

-- the machine with a job in another standing
abbrev pub moved : MachineState → ℕ → Standing → MachineState
moved m job standing = with_queue m (record { standings = with_standing job standing m.standings; passes = m.passes })

pub moved_back : (m : MachineState) (job : ℕ) (s : Standing) → of_job job m.standings ≡ Some s → moved m job s ≡ m
moved_back m job s e = grind (arith, none-some, set_back)

moved_twice : (m : MachineState) (job : ℕ) (old new : Standing) → moved (moved m job old) job new ≡ moved m job new
moved_twice m job old new = grind (arith, set-set)

pub event_moves : (event : Event) (m : MachineState) (job : ℕ) (task : Task) (old : Standing) →
    named_job event ≡ Some job → of_job job m.tasks ≡ Some task → of_job job m.standings ≡ Some old →
    machine_after event m ≡ moved m job (or_same old (next_standing event task old))
unfolding after_event
event_moves event m job task old named task_is old_is = grind (arith, none-some, set_back)

-- an event leaves its job in its next standing, or as it was
pub after_by : (region : ℕ) (tasks : List Task) (event : Event) (queue : Queue) (job : ℕ) (task : Task)
    (old : Standing) → job_of region tasks event queue ≡ Some job → of_job job tasks ≡ Some task →
    of_job job queue.standings ≡ Some old →
    (after_event region tasks event queue).standings ≡ with_standing job (or_same old (next_standing event task old))
    queue.standings
unfolding after_event
after_by region tasks event queue job task old job_is task_is old_is = grind (arith, none-some, set_back)

pub step_moves : (m : MachineState) (job : ℕ) (task : Task) (old : Standing) → of_job job m.tasks ≡ Some task →
    of_job job m.standings ≡ Some old → after_step job m ≡ moved m job (standing_after_step job task old)
step_moves m job task old task_is old_is =
    let begun = or_same old (next_standing (Begin job) task old) in
    ap (machine_after (Finish job)) (event_moves (Begin job) m job task old refl task_is old_is)
    ∙ (event_moves (Finish job) (moved m job begun) job task begun refl task_is
    (of_with job m.standings old begun old_is)
    ∙ moved_twice m job begun _)

pub run_moves : (count job : ℕ) (m : MachineState) (task : Task) (old new : Standing) → of_job job m.tasks ≡ Some task →
    of_job job m.standings ≡ Some old → StepsLead count job task old new → StepsLeadIn count job m (moved m job new)
run_moves zero job m task old new task_is old_is lead = grind (arith, moved_back)
run_moves (suc count) job m task old new task_is old_is lead =
    let next = standing_after_step job task old in
    let rest = run_moves count job (moved m job next) task next new task_is
    (of_with job m.standings old next old_is) lead.1 in
    (ap is_running old_is ∙ lead.0, rw (step_moves m job task old task_is old_is, ← moved_twice m job next new) rest)
