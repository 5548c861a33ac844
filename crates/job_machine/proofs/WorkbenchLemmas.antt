-- A workbench that fits a machine, and events of its jobs.
use Rattle.std.proofs.lemmas.Bool.Decides.{nat_tests}
use Rattle.std.proofs.Common.{rules, ◌≡◌, ℕ, ◌+◌, false, List, [], ◌∷◌, set, slice_get, Option, Some, None, refl, sym}
use Rattle.std.proofs.Common.{◌∙◌, ap, arith, inl, inr, length-set}
use Rattle.std.proofs.lemmas.Bool.{false≢true, cases_eq}
use Rattle.std.proofs.lemmas.List.{set-set}
use Rattle.std.proofs.lemmas.Option.{none-some, same_Some, slice_get_cases}
use Rattle.job_steps.specs.declared.event.Event.{Event}
use Rattle.job_steps.specs.declared.event.Event.TheVariants.{Admit, Begin, Finish, Recall, Collect}
use Rattle.job_steps.specs.Events.{next_standing, job_of, next_standing_in, standing_after, after_event}
use Rattle.job_steps.specs.Runs.{state_after}
use Rattle.job_steps.specs.Standings.{Standing, InFlight, of_job}
use Rattle.job_steps.specs.States.{Task}
use Rattle.job_steps.specs.Steps.{Progress}
use Rattle.job_steps.specs.Tickets.{Asked}
use Rattle.job_slots.specs.declared.answer.Begun.{Begun}
use Rattle.job_slots.specs.declared.answer.Begun.TheVariants as begun
use Rattle.job_slots.specs.declared.answer.Finished.{Finished}
use Rattle.job_slots.specs.Answers.{Begins, is_in_flight, is_live, or_same}
use Rattle.job_machine.specs.declared.workbench.Workplace.{Workplace}
use Rattle.job_machine.specs.declared.workbench.Workplace.TheVariants as workplace
use Rattle.job_machine.specs.Machines.{MachineState, queue_of, machine_after, BeginsIn, FinishesIn, after_begun}
use Rattle.job_machine.specs.Machines.{after_finished}
use Rattle.job_machine.specs.Workbench.{with_workplace, Takes, workplace_after, WorkplaceFits, FitsIn, WorkbenchFits}
use Rattle.job_machine.proofs.RunningOut.{of_with, of_with_other}
use Rattle.job_machine.proofs.Places.{get-set_same, get-set_other, set_back}
use Rattle.job_machine.proofs.Moves.{after_by}
use Rattle.job_machine.proofs.Stepping.{finished_by}

-- ---- lists of workplaces

workplace_twice : {A : Type 0} (job : ℕ) (one other : Workplace A) (workbench : List (Workplace A)) →
    with_workplace job other (with_workplace job one workbench) ≡ with_workplace job other workbench
workplace_twice job one other workbench = grind (arith, set-set)

none_back : {A : Type 0} (workbench : List (Workplace A)) (i : ℕ) (h : Workplace A) → slice_get workbench i ≡ None →
    set workbench i h ≡ workbench
none_back [] i h none = refl
none_back (z ∷ workbench) i h none = grind (arith, none-some, (none_back workbench))

-- ---- what is taken

-- there is no such job
pub takes_none : {A T : Type 0} (of : T → Workplace A) (job : ℕ) (old new : List (Workplace A)) (result : Option T) →
    None ≡ of_job job old → new ≡ with_workplace job workplace.Empty old → result ≡ None → Takes of job old new result
takes_none of job old new result none new_is result_is = grind (arith, none-some, none_back)

-- the workplace is otherwise, and is put back
pub takes_other : {A T : Type 0} (of : T → Workplace A) (job : ℕ) (old between new : List (Workplace A))
    (own : Workplace A) → Some own ≡ of_job job old → between ≡ with_workplace job workplace.Empty old →
    new ≡ with_workplace job own between → ((taken : T) → own ≡ of taken → ⊥) → Takes of job old new None
takes_other of job old between new own own_is between_is new_is otherwise =
    grind (arith, same_Some, workplace_twice, set_back)

-- ---- an event of one job

-- a closed event of a job leaves all as it was
passed : (event : Event) (m : MachineState) (job : ℕ) → job_of m.region m.tasks event (queue_of m) ≡ Some job →
    next_standing_in event (of_job job m.tasks) (of_job job m.standings) ≡ None → machine_after event m ≡ m
unfolding after_event
passed event m job job_is closed = grind arith

missing : {A : Type 0} (m : MachineState) (workbench : List (Workplace A)) → WorkbenchFits m workbench → (job : ℕ) →
    of_job job workbench ≡ None → of_job job m.tasks ≡ None
missing m workbench fit job none = grind (arith, slice_get_cases, none-some)

-- the machine after an event, which the workbench fits
pub record Played {A : Type 0} (event : Event) (m new : MachineState) (after : List (Workplace A)) : Type 0 where
  pub state : new ≡ machine_after event m
  pub fit : WorkbenchFits new after

-- a job has the same workplace, and the same standing
stays_fit : {A : Type 0} (m new : MachineState) (job : ℕ) (h : Workplace A) → new.tasks ≡ m.tasks →
    of_job job new.standings ≡ of_job job m.standings → FitsIn m job h → FitsIn new job h
stays_fit m new job h tasks same f =
    record { task = f.task; standing = f.standing; task_is = cc; standing_is = cc; fits = f.fits }

-- an event of a job, whose workplace changes so that it fits
event_fits : {A : Type 0} (event : Event) (m new : MachineState) (workbench after : List (Workplace A)) (job : ℕ)
    (own h : Workplace A) (fit : WorkbenchFits m workbench) (own_is : of_job job workbench ≡ Some own)
    (f : FitsIn m job own) → job_of m.region m.tasks event (queue_of m) ≡ Some job → new ≡ machine_after event m →
    after ≡ with_workplace job h workbench →
    WorkplaceFits job f.task (or_same f.standing (next_standing event f.task f.standing)) h → Played event m new after
event_fits event m new workbench after job own h fit own_is f job_is new_is after_is fits =
    let now = ap (λ k. k.standings) new_is
    ∙ after_by _ _ event (queue_of m) job f.task f.standing job_is f.task_is f.standing_is in
    let tasks : new.tasks ≡ m.tasks = ap (λ k. k.tasks) new_is in
    let here : FitsIn new job h = record {
      task = f.task;
      standing = or_same f.standing (next_standing event f.task f.standing);
      task_is = ap (of_job job) tasks ∙ f.task_is;
      standing_is = ap (of_job job) now ∙ of_with job m.standings f.standing _ f.standing_is;
      fits = fits;
    } in
    record {
      state = new_is;
      fit = record {
        count = grind (arith, length-set);
        each = λ other k k_is. elim (cases_eq other job) [
          | inl same ↦ grind (arith, none-some, get-set_same, same_Some)
          | inr apart ↦
              stays_fit m new other k tasks (ap (of_job other) now ∙ of_with_other job other m.standings _ apart)
              (fit.each other k (grind (arith, get-set_other)))
        ];
      };
    }

-- a job without a workplace, or whose event is closed at its workplace, is left as it was
closed : {A : Type 0} (event : Event) (m : MachineState) (workbench : List (Workplace A)) (job : ℕ) →
    WorkbenchFits m workbench → job_of m.region m.tasks event (queue_of m) ≡ Some job → ((h : Workplace A) →
    of_job job workbench ≡ Some h → (f : FitsIn m job h) → next_standing event f.task f.standing ≡ None) →
    (o : Option (Workplace A)) → of_job job workbench ≡ o → machine_after event m ≡ m
closed event m workbench job fit job_is none None is = passed event m job job_is (grind (arith, missing))
closed event m workbench job fit job_is none (Some h) is =
    let f = fit.each job h is in
    passed event m job job_is (rw (f.task_is, f.standing_is) (none h is f))

-- ---- a begin

begun_fits : {A : Type 0} (job desk : ℕ) (task : Task) (s : Standing) (answer : Begun A) →
    Begins job desk task s answer → WorkplaceFits {A = A} job task s (workplace.Free desk) →
    WorkplaceFits job task (or_same s (next_standing (Begin job) task s)) (workplace_after answer)
begun_fits job desk task s (begun.Began ticket) is fits = grind arith
begun_fits job desk task s (begun.Ended d) is fits = grind arith
begun_fits job desk task s (begun.NotReady d) is fits = grind (arith, false≢true)
begun_fits job desk task s (begun.SmallDesk d) is fits = grind arith

not_live : (job : ℕ) (task : Task) (standing : Standing) → is_live standing ≡ false →
    next_standing (Begin job) task standing ≡ None
not_live job task standing e = grind (arith, false≢true)

begun_state : {A : Type 0} (m : MachineState) (job desk : ℕ) (f : FitsIn {A = A} m job (workplace.Free desk))
    (answer : Begun A) → Begins job desk f.task f.standing answer →
    after_begun answer m (machine_after (Begin job) m) ≡ machine_after (Begin job) m
begun_state m job desk f (begun.Began ticket) is = refl
begun_state m job desk f (begun.Ended d) is = refl
begun_state m job desk f (begun.NotReady d) is =
    sym (passed (Begin job) m job refl (rw (f.task_is, f.standing_is) (not_live job f.task f.standing is.0)))
begun_state m job desk f (begun.SmallDesk d) is = grind arith

pub plays_begin : {A : Type 0} (m new : MachineState) (workbench between after : List (Workplace A)) (job desk : ℕ)
    (answer : Begun A) → WorkbenchFits m workbench → Takes workplace.Free job workbench between (Some desk) →
    BeginsIn job desk (of_job job m.tasks) (of_job job m.standings) answer →
    new ≡ after_begun answer m (machine_after (Begin job) m) →
    after ≡ with_workplace job (workplace_after answer) between → Played (Begin job) m new after
plays_begin m new workbench between after job desk answer fit taken answers new_is after_is =
    let f = fit.each job _ taken.0 in
    let begins = rw (f.task_is, f.standing_is) at answers in
    event_fits (Begin job) m new workbench after job _ (workplace_after answer) fit taken.0 f refl
    (new_is ∙ begun_state m job desk f answer begins) (cc (workplace_twice job workplace.Empty
    (workplace_after answer) workbench)) (begun_fits job desk f.task f.standing answer begins f.fits)

no_desk : {A : Type 0} (m : MachineState) (job : ℕ) (h : Workplace A) (f : FitsIn m job h) →
    ((desk : ℕ) → h ≡ workplace.Free desk → ⊥) → next_standing (Begin job) f.task f.standing ≡ None
no_desk m job h f none = search (rules)

-- no desk is there, since a step has begun or there is no such job
pub plays_no_begin : {A : Type 0} (m : MachineState) (workbench after : List (Workplace A)) (job : ℕ) →
    WorkbenchFits m workbench → Takes workplace.Free job workbench after None → Played (Begin job) m m after
plays_no_begin m workbench after job fit taken =
    let same = closed (Begin job) m workbench job fit refl
    (λ h is f. no_desk m job h f (λ desk e. taken.0 desk (is ∙ ap (λ k. Some k) e))) _ refl in
    record { state = sym same; fit = rw taken.1 fit }

-- ---- a step that is there no more

no_step : {A : Type 0} (m : MachineState) (job : ℕ) (h : Workplace A) (f : FitsIn m job h) →
    ((filled : Asked) → h ≡ workplace.Holds filled → ⊥) → is_in_flight f.standing ≡ false
no_step m job h f none = search (rules)

-- an event is closed that is if no step has begun
not_played : {A : Type 0} (event : Event) (m : MachineState) (workbench after : List (Workplace A)) (job : ℕ) →
    ((task : Task) (s : Standing) → is_in_flight s ≡ false → next_standing event task s ≡ None) →
    job_of m.region m.tasks event (queue_of m) ≡ Some job → WorkbenchFits m workbench →
    Takes workplace.Holds job workbench after None → machine_after event m ≡ m
not_played event m workbench after job idle job_is fit taken =
    closed event m workbench job fit job_is (λ h is f. idle f.task f.standing
    (no_step m job h f (λ filled e. taken.0 filled (is ∙ ap (λ k. Some k) e)))) _ refl

no_finish : (job : ℕ) (task : Task) (s : Standing) → is_in_flight s ≡ false → next_standing (Finish job) task s ≡ None
no_finish job task s e = grind (arith, false≢true)

no_recall : (job : ℕ) (task : Task) (s : Standing) → is_in_flight s ≡ false → next_standing (Recall job) task s ≡ None
no_recall job task s e = grind (arith, false≢true)

pub plays_no_finish : {A : Type 0} (m : MachineState) (workbench after : List (Workplace A)) (job : ℕ) →
    WorkbenchFits m workbench → Takes workplace.Holds job workbench after None → Played (Finish job) m m after
plays_no_finish m workbench after job fit taken = record {
  state = sym (not_played (Finish job) m workbench after job (no_finish job) refl fit taken);
  fit = rw taken.1 fit;
}

pub plays_no_recall : {A : Type 0} (m new : MachineState) (workbench after : List (Workplace A)) (job : ℕ) →
    WorkbenchFits m workbench → Takes workplace.Holds job workbench after None → new ≡ machine_after (Recall job) m →
    Played (Recall job) m new after
plays_no_recall m new workbench after job fit taken is = record {
  state = is;
  fit = rw (is, not_played (Recall job) m workbench after job (no_recall job) refl fit taken, taken.1) fit;
}

-- ---- a step that is finished or given up

landed : (n : ℕ) (p : Progress) → is_in_flight (standing_after n p) ≡ false
landed n p = grind arith

-- the step that the workplace holds is over, and its desk is free again
freed : {A : Type 0} (event : Event) (m new : MachineState) (workbench between after : List (Workplace A))
    (job desk : ℕ) (filled : Asked) → WorkbenchFits m workbench →
    Takes workplace.Holds job workbench between (Some filled) →
    job_of m.region m.tasks event (queue_of m) ≡ Some job → ((task : Task) → is_in_flight
    (or_same (InFlight filled.step) (next_standing event task (InFlight filled.step))) ≡ false) → desk ≡ filled.words →
    new ≡ machine_after event m → after ≡ with_workplace job (workplace.Free desk) between → Played event m new after
freed event m new workbench between after job desk filled fit taken job_is lands desk_is new_is after_is =
    let f = fit.each job _ taken.0 in
    let over = ap (λ s. is_in_flight (or_same s (next_standing event f.task s))) f.fits.2.flying ∙ lands f.task in
    event_fits event m new workbench after job _ (workplace.Free desk) fit taken.0 f job_is new_is
    (cc (workplace_twice job workplace.Empty (workplace.Free desk) workbench)) (desk_is ∙ f.fits.1, over)

pub plays_recall : {A : Type 0} (m new : MachineState) (workbench between after : List (Workplace A)) (job desk : ℕ)
    (filled : Asked) → WorkbenchFits m workbench → Takes workplace.Holds job workbench between (Some filled) →
    desk ≡ filled.words → new ≡ machine_after (Recall job) m →
    after ≡ with_workplace job (workplace.Free desk) between → Played (Recall job) m new after
plays_recall m new workbench between after job desk filled fit taken desk_is new_is after_is =
    freed (Recall job) m new workbench between after job desk filled fit taken refl (λ task. refl) desk_is new_is
    after_is

finishes : {A : Type 0} (m new : MachineState) (workbench : List (Workplace A)) (job : ℕ) (filled : Asked)
    (answer : Finished) → WorkbenchFits m workbench → of_job job workbench ≡ Some (workplace.Holds filled) →
    FinishesIn filled (of_job filled.job m.tasks) (of_job filled.job m.standings) answer →
    new ≡ after_finished answer m (machine_after (Finish filled.job) m) → new ≡ machine_after (Finish job) m
finishes m new workbench job filled answer fit own answers new_is =
    let f = fit.each job (workplace.Holds filled) own in
    let task_is : of_job filled.job m.tasks ≡ Some f.task = cc in
    let flying : of_job filled.job m.standings ≡ Some (InFlight filled.step) = cc in
    grind (arith, nat_tests, finished_by)

pub plays_finish : {A : Type 0} (m new : MachineState) (workbench between after : List (Workplace A)) (job desk : ℕ)
    (filled : Asked) (answer : Finished) → WorkbenchFits m workbench →
    Takes workplace.Holds job workbench between (Some filled) →
    FinishesIn filled (of_job filled.job m.tasks) (of_job filled.job m.standings) answer → desk ≡ filled.words →
    new ≡ after_finished answer m (machine_after (Finish filled.job) m) →
    after ≡ with_workplace job (workplace.Free desk) between → Played (Finish job) m new after
plays_finish m new workbench between after job desk filled answer fit taken answers desk_is new_is after_is =
    freed (Finish job) m new workbench between after job desk filled fit taken refl
    (λ task. landed (filled.step + 1) (state_after task (filled.step + 1))) desk_is
    (finishes m new workbench job filled answer fit taken.0 answers new_is) after_is

-- ---- an event of no step

-- a workplace that fits a job still fits it after the event
abbrev IsOfNoStep : Type 0 → Event → Type 0
IsOfNoStep A event =
    (job : ℕ) (task : Task) (old : Standing) (h : Workplace A) → WorkplaceFits job task old h →
    WorkplaceFits job task (or_same old (next_standing event task old)) h

admits_no_step : {A : Type 0} → IsOfNoStep A Admit
admits_no_step job task old h fits = grind arith

collects_no_step : {A : Type 0} (other : ℕ) → IsOfNoStep A (Collect other)
collects_no_step other job task old h fits = grind arith

unmoved : (event : Event) (m : MachineState) → job_of m.region m.tasks event (queue_of m) ≡ None →
    machine_after event m ≡ m
unfolding after_event
unmoved event m none = grind arith

still_at : {A : Type 0} (event : Event) (m new : MachineState) (workbench : List (Workplace A)) (job : ℕ) →
    IsOfNoStep A event → WorkbenchFits m workbench → new ≡ machine_after event m →
    job_of m.region m.tasks event (queue_of m) ≡ Some job → (o : Option (Workplace A)) → of_job job workbench ≡ o →
    WorkbenchFits new workbench
still_at event m new workbench job rests fit new_is job_is None is =
    rw (new_is, passed event m job job_is (grind (arith, missing))) fit
still_at event m new workbench job rests fit new_is job_is (Some h) is =
    let f = fit.each job h is in
    (event_fits event m new workbench workbench job h h fit is f job_is new_is (grind (arith, none-some, set_back))
    (rests job f.task f.standing h f.fits)).fit

admitted_at : {A : Type 0} (m new : MachineState) (workbench : List (Workplace A)) → WorkbenchFits m workbench →
    new ≡ machine_after Admit m → (job : Option ℕ) → job_of m.region m.tasks Admit (queue_of m) ≡ job →
    WorkbenchFits new workbench
admitted_at m new workbench fit new_is None job_is = rw (new_is, unmoved Admit m job_is) fit
admitted_at m new workbench fit new_is (Some job) job_is =
    still_at Admit m new workbench job admits_no_step fit new_is job_is _ refl

pub fit_admitted : {A : Type 0} (m new : MachineState) (workbench : List (Workplace A)) → WorkbenchFits m workbench →
    new ≡ machine_after Admit m → WorkbenchFits new workbench
fit_admitted m new workbench fit new_is = admitted_at m new workbench fit new_is _ refl

pub fit_collected : {A : Type 0} (m new : MachineState) (workbench : List (Workplace A)) (job : ℕ) →
    WorkbenchFits m workbench → new ≡ machine_after (Collect job) m → WorkbenchFits new workbench
fit_collected m new workbench job fit new_is =
    still_at (Collect job) m new workbench job (collects_no_step job) fit new_is refl _ refl
