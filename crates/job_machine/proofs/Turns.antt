-- Jobs that are run to their ends one after another.
use Rattle.std.proofs.lemmas.Bool.Decides.{nat_tests}
use Rattle.std.proofs.Common.{◌≡◌, true, is_some, ℕ, suc, ◌<◌, ◌≤◌, false, List, [], length, slice_get, All}
use Rattle.std.proofs.Common.{Option, Some, None, refl, sym, subst, arith, inl, inr}
use Rattle.std.proofs.lemmas.Bool.{cases_eq}
use Rattle.std.proofs.lemmas.Option.{none-some, same_Some, slice_get-get_or}
use Rattle.job_steps.specs.declared.event.Event.TheVariants.{Admit, Collect}
use Rattle.job_steps.specs.EventLaws.{EventsGoOn, EventsKeep, EventsUseUp, LeadsJoin, AdmittedHaveRoom, IsVerified}
use Rattle.job_steps.specs.EventLaws.{AreKept}
use Rattle.job_steps.specs.Events.{is_open, next_standing, recalled_standing, all_events_left}
use Rattle.job_steps.specs.Standings.{Standing, Collected, of_job, admission}
use Rattle.job_steps.specs.States.{Task}
use Rattle.job_machine.specs.declared.machine.Admission.TheVariants.{Admitted}
use Rattle.job_machine.specs.Machines.{MachineState, queue_of, machine_after, Leads, HasNoStep, GoesOn}
use Rattle.job_machine.specs.Machines.{IsWaitingOrCollected, IsDone, admission_in, is_running}
use Rattle.job_machine.proofs.RunningOut.{leads_on, goes_on_on, all_kept, goes_by, fewer_after, collected_stays}
use Rattle.job_machine.proofs.RunningOut.{done_after, admitted, idle_at, leads_one, all_collected}
use Rattle.job_machine.proofs.RunningOut.{after_none, not_admitted}

abbrev pub left_in : MachineState → ℕ
left_in m = all_events_left m.tasks m.standings

pub leads_none : (m : MachineState) → Leads m m
leads_none m = (refl, refl, ([], refl), refl)

-- ---- one job

-- by events of a job, at whose end no step has begun and no more events are left
pub record Runs (job : ℕ) (old new : MachineState) : Type 0 where
  pub goes_on : GoesOn job old new
  pub no_more : left_in new ≤ left_in old

pub runs_first : (job : ℕ) (m : MachineState) → HasNoStep m → Runs job m m
runs_first job m none = grind (arith, leads_none)

-- what collects a job and leaves it collected, if it doesn't wait
pub record RunsOut (job : ℕ) (old new : MachineState) : Type 0 where
  pub runs : Runs job old new
  pub done : IsDone (of_job job new.standings)

pub kept_on : EventsKeep → (old between : MachineState) → All IsVerified old.tasks →
    AreKept old.region old.tasks (queue_of old) → Leads old between →
    AreKept between.region between.tasks (queue_of between) × All IsVerified between.tasks
kept_on keep old between verified kept leads =
    (rw (leads.0, leads.1) (all_kept keep old between verified kept leads), rw leads.1 verified)

pub runs_out : LeadsJoin → EventsKeep → EventsUseUp → (job : ℕ) (old between new : MachineState) →
    All IsVerified old.tasks → AreKept old.region old.tasks (queue_of old) → Runs job old between →
    is_running (of_job job between.standings) ≡ false → new ≡ machine_after (Collect job) between → RunsOut job old new
runs_out join keep use_up job old between new verified kept r idle new_is =
    let now = kept_on keep old between verified kept r.goes_on.leads in
    let less = fewer_after use_up (Collect job) between now.1 now.0 refl in
    rw new_is (record {
      runs = record {
        goes_on = goes_on_on join job old between _ r.goes_on (goes_by (Collect job) job between r.goes_on.no_step
            (collected_stays job) refl);
        no_more = omega (arith, less, r.no_more);
      };
      done = done_after job between now.0.same_length r.goes_on.no_step idle;
    })

-- ---- the jobs that don't wait

-- the first jobs are done
pub record RunsTo (place : ℕ) (old new : MachineState) : Type 0 where
  pub leads : Leads old new
  pub no_step : HasNoStep new
  pub done : (k : ℕ) → k < place → IsDone (slice_get new.standings k)

pub to_first : (m : MachineState) → HasNoStep m → RunsTo 0 m m
to_first m none = record { leads = leads_none m; no_step = none; done = λ k h. absurd (omega (arith, h)) }

all_done : (standings : List Standing) → ((k : ℕ) → k < length standings → IsDone (slice_get standings k)) →
    All IsWaitingOrCollected standings
all_done standings done k d h = subst IsDone (slice_get-get_or standings k d h) (done k h)

done_by : (standings : List Standing) → All IsWaitingOrCollected standings → (k : ℕ) → (o : Option Standing) →
    slice_get standings k ≡ o → IsDone o
done_by standings idle k None e = tt
done_by standings idle k (Some s) e = idle_at standings idle (suc k) s e

pub all_to : (place : ℕ) (old new : MachineState) → RunsTo place old new → length new.standings ≡ place →
    All IsWaitingOrCollected new.standings
all_to place old new r count = all_done new.standings (λ k h. r.done k (omega (arith, h, count)))

-- all are, if no job is under way
pub idle_to : (place : ℕ) (old new : MachineState) → Leads old new → HasNoStep new →
    All IsWaitingOrCollected new.standings → RunsTo place old new
idle_to place old new leads none idle =
    record { leads = leads; no_step = none; done = λ k h. done_by new.standings idle k _ refl }

-- a job runs out, and the others stand as they did
pub runs_on : LeadsJoin → (job place next : ℕ) (old between new : MachineState) → RunsTo place old between →
    GoesOn job between new → IsDone (of_job job new.standings) →
    ((k : ℕ) → k < next → (suc k ≡ job → ⊥) → k < place) → RunsTo next old new
runs_on join job place next old between new r goes done within = record {
  leads = leads_on join old between new r.leads goes.leads;
  no_step = goes.no_step;
  done = λ k h. elim (cases_eq (suc k) job) [
    | inl here ↦ subst (λ (j : ℕ). IsDone (of_job j new.standings)) (sym here) done
    | inr apart ↦ subst IsDone (sym (goes.others (suc k) apart)) (r.done k (within k h apart))
  ];
}

-- ---- an admission

opens_by : AdmittedHaveRoom → (m : MachineState) (job : ℕ) → admission m.region m.tasks (queue_of m) ≡ Some job →
    is_open m.region m.tasks Admit (queue_of m) ≡ true
unfolding is_open
opens_by room m job e =
    let r = room m.region m.tasks (queue_of m) job e in
    grind (arith, nat_tests, is_some)

live_is : (task : Task) (old new : Standing) → next_standing Admit task old ≡ Some new → recalled_standing new ≡ new
live_is task old new e = grind (arith, same_Some, none-some)

-- what an admission does
pub record Admits (job : ℕ) (old new : MachineState) : Type 0 where
  pub goes_on : GoesOn job old new
  pub fewer : left_in new < left_in old

pub admits : AdmittedHaveRoom → EventsKeep → EventsUseUp → (job place : ℕ) (old between new : MachineState) →
    All IsVerified old.tasks → AreKept old.region old.tasks (queue_of old) → RunsTo place old between →
    admission_in between ≡ Admitted job → new ≡ machine_after Admit between → Admits job between new
admits room keep use_up job place old between new verified kept r answer new_is =
    let now = kept_on keep old between verified kept r.leads in
    let next = admitted between job answer in
    rw new_is (record {
      goes_on = goes_by Admit job between r.no_step live_is next;
      fewer = use_up _ _ now.1 Admit (queue_of between) now.0 refl (opens_by room between job next);
    })

-- none is admitted at the end
pub record AreOut (old new : MachineState) : Type 0 where
  pub leads : Leads old new
  pub no_step : HasNoStep new
  pub collected : All (λ standing. standing ≡ Collected) new.standings

pub out : LeadsJoin → EventsGoOn → EventsKeep → (old between new : MachineState) → All IsVerified old.tasks → AreKept
    old.region old.tasks (queue_of old) → All (λ task. task.limits.words ≤ old.region) old.tasks →
    RunsTo (length old.tasks) old between → ((job : ℕ) → admission_in between ≡ Admitted job → ⊥) →
    new ≡ machine_after Admit between → AreOut old new
out join go_on keep old between new verified kept fitting r nobody new_is =
    let count = (all_kept keep old between verified kept r.leads).same_length in
    let idle = all_to _ old between r count in
    grind (
      arith,
      nat_tests,
      all_kept,
      leads_on,
      leads_one,
      after_none,
      not_admitted,
      all_collected,
    )

-- a desk that has the words of each job still does
pub words_on : (words : ℕ) (old between : MachineState) → Leads old between →
    All (λ task. task.limits.words ≤ words) old.tasks → All (λ task. task.limits.words ≤ words) between.tasks
words_on words old between leads fits = grind arith
