-- Steps of a job in one go, among a machine's jobs.
use Rattle.std.proofs.Common.{◌≡◌, ℕ, zero, suc, true, [], ◌∷◌, All, Option, Some, None}
use Rattle.std.proofs.Common.{refl, sym, ◌∙◌, ap, subst, arith}
use Rattle.std.proofs.lemmas.Bool.{false≢true}
use Rattle.job_steps.specs.declared.event.Event.TheVariants.{Begin, Finish}
use Rattle.job_steps.specs.EventLaws.{EventsKeep, EventsUseUp, LeadsJoin, IsVerified, AreKept}
use Rattle.job_steps.specs.Events.{next_standing, recalled_standing}
use Rattle.job_steps.specs.Events.{standing_after}
use Rattle.job_steps.specs.Standings.{Standing, InFlight, of_job}
use Rattle.job_steps.specs.States.{Task}
use Rattle.job_steps.specs.Steps.{Progress}
use Rattle.job_steps.specs.Tickets.{Asked}
use Rattle.job_slots.specs.declared.answer.Finished.{Finished}
use Rattle.job_slots.specs.Answers.{question_at, or_same}
use Rattle.job_machine.specs.Machines.{MachineState, queue_of, machine_after, after_step, HasNoStep, is_running}
use Rattle.job_machine.specs.Machines.{FinishesIn, StepsLeadIn, after_finished}
use Rattle.job_machine.proofs.Moves.{step_moves}
use Rattle.job_machine.proofs.RunningOut.{of_with_other, no_step_with, beside, fewer_after}
use Rattle.job_machine.proofs.RunningOut.{goes_on_on}
use Rattle.job_machine.proofs.Turns.{Runs, runs_first}

-- ---- a finish

pub finished_by : {T : Type 0} (task : Task) (filled : Asked) (answer : Finished) (old next : T) →
    question_at task filled.step ≡ Some filled.question → FinishesIn filled (Some task) (Some (InFlight filled.step))
    answer → after_finished answer old next ≡ next
finished_by task filled answer old next question h6 = grind arith

-- ---- a step

-- after a finish no step of the job has begun
landed : (n : ℕ) (p : Progress) → recalled_standing (standing_after n p) ≡ standing_after n p
landed n p = grind arith

idle_after : (job : ℕ) (task : Task) (begun : Standing) → recalled_standing
    (or_same begun (next_standing (Finish job) task begun)) ≡ or_same begun (next_standing (Finish job) task begun)
idle_after job task begun = grind (arith, landed)

-- a step of a job goes on, and leaves no more events
step_runs : EventsUseUp → EventsKeep → (m : MachineState) (job : ℕ) → All IsVerified m.tasks →
    AreKept m.region m.tasks (queue_of m) → HasNoStep m → (s : Option Standing) → of_job job m.standings ≡ s →
    is_running s ≡ true → Runs job m (after_step job m)
step_runs use_up keep m job verified kept none None s_is live = absurd (false≢true live)
step_runs use_up keep m job verified kept none (Some old) s_is live =
    let task = beside m kept.same_length job old s_is in
    let is = ap (λ k. k.standings) (step_moves m job task.0 old task.1 s_is) in
    let first = fewer_after use_up (Begin job) m verified kept refl in
    let second = fewer_after use_up (Finish job) (machine_after (Begin job) m) verified (keep _ _ verified
    (Begin job ∷ []) (queue_of m) kept) refl in
    record {
      goes_on = record {
        leads = (refl, refl, (Begin job ∷ Finish job ∷ [], refl), refl);
        no_step = rw is (no_step_with job m.standings _ none (idle_after job task.0
            (or_same old (next_standing (Begin job) task.0 old))));
        others = λ other ne. ap (of_job other) is ∙ of_with_other job other m.standings _ ne;
      };
      no_more = omega (arith, first, second);
    }

-- ---- steps

pub all_run : EventsUseUp → EventsKeep → LeadsJoin → (count job : ℕ) (m new : MachineState) → All IsVerified m.tasks →
    AreKept m.region m.tasks (queue_of m) → HasNoStep m → StepsLeadIn count job m new → Runs job m new
all_run use_up keep join zero job m new verified kept none lead = subst (Runs job m) (sym lead) (runs_first job m none)
all_run use_up keep join (suc count) job m new verified kept none lead =
    let step = step_runs use_up keep m job verified kept none _ refl lead.0 in
    let rest = all_run use_up keep join count job (after_step job m) new verified (keep _ _ verified
    (Begin job ∷ Finish job ∷ []) (queue_of m) kept) step.goes_on.no_step lead.1 in
    record {
      goes_on = goes_on_on join job m _ new step.goes_on rest.goes_on;
      no_more = omega (arith, step.no_more, rest.no_more);
    }
