-- Each job is where its run alone leads, whatever the events; what jobs have used, and how they end.
use Rattle.std.proofs.lemmas.Option.{none-some, slice_get-map}
use Rattle.std.proofs.lemmas.Bool.Decides.{nat_tests}
use Rattle.std.proofs.lemmas.Grind.{common_steps}
use Rattle.std.proofs.Common.{◌≡◌, ℕ, ◌+◌, ◌*◌, ◌<◌, ◌≤◌, true, false, cond, List, [], ◌∷◌, length, All, Option, Some}
use Rattle.std.proofs.Common.{None, is_some, refl, ◌∙◌, ap, arith}
use Rattle.std.proofs.lemmas.Bool.{cases_eq, ne_eqb}
use Rattle.std.proofs.lemmas.List.{length-map}
use Rattle.std.proofs.lemmas.List.Elements.{All-head, All-tail}
use Rattle.signatures.specs.Signatures.{Signature}
use Rattle.job_steps.specs.declared.event.Event.{Event}
use Rattle.job_steps.specs.EventLaws.{IsVerified, IsRunning, StandsOnRun, AreKept}
use Rattle.job_steps.specs.Events.{early_end, standing_after, is_open, after_event, after_events, recalled_standing}
use Rattle.job_steps.specs.Events.{recalled_queue, is_recall, AreOpen, event_count, events_left, all_events_left}
use Rattle.job_steps.specs.Reached.{IsVerifiedTask, IsWithin, Reaches, NeverStuck, EachEnds}
use Rattle.job_steps.specs.Runs.{state_after, peak_in}
use Rattle.job_steps.specs.Standings.{Standing, InFlight, Ended, Queue, of_job, reserved_words, granted_words, held_in}
use Rattle.job_steps.specs.Standings.{used_words}
use Rattle.job_steps.specs.States.{Task, first_state}
use Rattle.job_steps.specs.Steps.{Ending, Progress, Running, Over, Stuck}
use Rattle.job_steps.proofs.Halves.{below_budget, early_ends}
use Rattle.job_steps.proofs.Happenings.{Changes, Admits, Begins, Finishes, Recalls, Collects, changes, Opens, happens}
use Rattle.job_steps.proofs.Happenings.{opens}
use Rattle.job_steps.proofs.Admissions.{after_length, after_few}
use Rattle.job_steps.proofs.Standings.{of_with, of_with_other, with_length, all_of, beside, of_mapped, sum_with}
use Rattle.job_steps.proofs.Standings.{sum_mapped, none_granted, none_passed, admitted_room}

-- ---- one job

begun_on_run : (task : Task) → IsWithin task → (n : ℕ) (run : IsRunning task n) (o : Option Ending) →
    early_end task run.state ≡ o → StandsOnRun task (cond (is_some o) Ended (InFlight n))
begun_on_run task within n run None early = record { run = run; goes_on = early }
begun_on_run task within n run (Some ending) early = within

finish_on_run : NeverStuck → Reaches → (signatures : List Signature) (task : Task) → IsVerifiedTask signatures task →
    IsWithin task → (n : ℕ) (p : Progress) → state_after task n ≡ p → StandsOnRun task (standing_after n p)
finish_on_run stuck reaches signatures task v within n (Running s) e =
    record { state = s; running = e; budget = (reaches signatures task v n s e).budget }
finish_on_run stuck reaches signatures task v within n (Over ending x p) e = within
finish_on_run stuck reaches signatures task v within n Stuck e = absurd (stuck signatures task v n e)

next_on_run : NeverStuck → Reaches → EachEnds → (task : Task) → IsVerified task → (event : Event) (old new : Standing) →
    Changes task event old new → StandsOnRun task old → StandsOnRun task new
next_on_run stuck reaches ends task v event old new (Admits event_is old_is new_is) h =
    rw new_is (record { state = first_state task.verified; running = refl; budget = omega arith })
next_on_run stuck reaches ends task v event old new (Begins job n event_is old_is new_is) h =
    grind (arith, begun_on_run)
next_on_run stuck reaches ends task v event old new (Finishes job n event_is old_is new_is) h =
    grind (arith, finish_on_run)
next_on_run stuck reaches ends task v event old new (Recalls job n event_is old_is new_is) h = grind arith
next_on_run stuck reaches ends task v event old new (Collects job event_is old_is new_is) h = grind arith

-- ---- all jobs

pub recalls_keep : (region : ℕ) (tasks : List Task) (queue : Queue) → AreKept region tasks queue →
    AreKept region tasks (recalled_queue queue)
recalls_keep region tasks queue kept = record {
  same_length = grind (arith, length-map);
  passes_length = kept.passes_length;
  on_run = λ job task s t e.
      let before = of_mapped recalled_standing queue.standings job s e in
      let was = kept.on_run job task before.0 t before.1 in grind arith;
  few_passes = kept.few_passes;
  granted = rw (sum_mapped reserved_words recalled_standing (λ task s. grind arith) tasks queue.standings) kept.granted;
}

-- ---- events

left_most : (task : Task) (s : Standing) → events_left task s ≤ 2 * task.limits.budget + 3
left_most task s = grind arith

module _ (reaches : Reaches) (region : ℕ) (tasks : List Task) (each : All IsVerified tasks) where
  -- an event that is no recall leaves fewer to come
  next_lowers : (task : Task) → IsVerified task → (event : Event) (old new : Standing) →
      Changes task event old new → is_recall event ≡ false → StandsOnRun task old →
      events_left task new < events_left task old
  next_lowers task v event old new change no_recall h = grind (arith, below_budget)

  module _ (event : Event) (queue : Queue) (kept : AreKept region tasks queue) (no_recall : is_recall event ≡ false)
    where
      open_lowers : (o : Opens region tasks event queue) → events_left o.task o.new < events_left o.task o.old
      open_lowers o =
          next_lowers o.task (all_of IsVerified tasks each o.job o.task o.task_is) event o.old o.new
          (changes event o.task o.old o.new o.new_is) no_recall (kept.on_run o.job o.task o.old o.task_is o.old_is)

      pub events_use_up : is_open region tasks event queue ≡ true →
          all_events_left tasks (after_event region tasks event queue).standings < all_events_left tasks queue.standings
      events_use_up can =
          let o = opens region tasks event queue can in
          let sums = sum_with events_left tasks queue.standings o.job o.task o.old o.new o.task_is o.old_is in
          omega (arith, open_lowers o, sums, ap (all_events_left tasks) o.after)

  module _ (stuck : NeverStuck) (ends : EachEnds) where
    kept_open : (event : Event) (queue : Queue) → AreKept region tasks queue →
        (o : Opens region tasks event queue) → AreKept region tasks (after_event region tasks event queue)
    kept_open event queue kept o =
        let change = changes event o.task o.old o.new o.new_is in
        let v : IsVerified o.task = all_of IsVerified tasks each o.job o.task o.task_is in
        let here = next_on_run stuck reaches ends o.task v event o.old o.new change
        (kept.on_run o.job o.task o.old o.task_is o.old_is) in
        let sums = sum_with reserved_words tasks queue.standings o.job o.task o.old o.new o.task_is o.old_is in
        record {
          same_length = grind (arith, with_length);
          passes_length = after_length region tasks event queue ∙ kept.passes_length;
          on_run = λ j k s kt ks. let same = cases_eq o.job j in grind (arith, of_with, of_with_other);
          few_passes = after_few region tasks event queue kept.few_passes;
          granted = grind (arith, admitted_room);
        }

    event_keeps : (event : Event) (queue : Queue) → AreKept region tasks queue →
        AreKept region tasks (after_event region tasks event queue)
    event_keeps event queue kept = let h = happens region tasks event queue in grind (arith, common_steps, kept_open)

    pub events_keep : (events : List Event) (queue : Queue) → AreKept region tasks queue →
        AreKept region tasks (after_events region tasks events queue)
    events_keep [] queue kept = kept
    events_keep (event ∷ events) queue kept =
        events_keep events (after_event region tasks event queue) (event_keeps event queue kept)

    -- how many events there are
    pub events_end : (events : List Event) (queue : Queue) → AreKept region tasks queue →
        AreOpen region tasks events queue → All (λ event. is_recall event ≡ false) events → length events
        + all_events_left tasks (after_events region tasks events queue).standings
        ≤ all_events_left tasks queue.standings
    events_end [] queue kept can no_recalls = omega arith
    events_end (event ∷ events) queue kept can no_recalls =
        let others = All-tail (λ (k : Event). is_recall k ≡ false) event events no_recalls in
        let rest = events_end events (after_event region tasks event queue) (event_keeps event queue kept) can.1 others
        in grind (arith, All-head, events_use_up)

    few : (events : List Event) (queue : Queue) → AreKept region tasks queue → AreOpen region tasks events queue →
        All (λ event. is_recall event ≡ false) events → (job : ℕ) (task : Task) (s : Standing) →
        of_job job tasks ≡ Some task → of_job job queue.standings ≡ Some s →
        event_count region tasks events queue job ≤ events_left task s
    few [] queue kept can no_recalls job task s t e = omega arith
    few (event ∷ events) queue kept can no_recalls job task s t e =
        let o = opens region tasks event queue can.0 in
        let no_recall = All-head (λ (k : Event). is_recall k ≡ false) event events no_recalls in
        let lower = open_lowers event queue kept no_recall o in
        let same = cases_eq o.job job in
        let others = All-tail (λ (k : Event). is_recall k ≡ false) event events no_recalls in
        let rest = λ (r : Standing).
        few events (after_event region tasks event queue) (event_keeps event queue kept) can.1 others job task r t in
        grind (arith, of_with, of_with_other, ne_eqb)

    pub events_are_few : (events : List Event) (queue : Queue) → AreKept region tasks queue →
        AreOpen region tasks events queue → All (λ event. is_recall event ≡ false) events → (job : ℕ) (task : Task) →
        of_job job tasks ≡ Some task → event_count region tasks events queue job ≤ 2 * task.limits.budget + 3
    events_are_few events queue kept can no_recalls job task t =
        let at = beside tasks queue.standings kept.same_length job task t in
        omega (arith, few events queue kept can no_recalls job task at.0 t at.1, left_most task at.0)

-- ---- what is used

pub held_after : Reaches → (task : Task) → IsVerified task → (n : ℕ) → held_in (state_after task n) ≤ task.limits.words
held_after reaches task v n = grind (arith, reaches v.0 task v.1 n)

pub peak_within : Reaches → (task : Task) → IsVerified task → (n : ℕ) → IsRunning task n →
    peak_in (state_after task n) ≤ task.limits.words
peak_within reaches task v n run =
    rw run.running (reaches v.0 task v.1 n run.state run.running).highest

pub used_is_granted : Reaches → (tasks : List Task) → All IsVerified tasks → (standings : List Standing) →
    used_words tasks standings ≤ granted_words tasks standings
used_is_granted reaches (t ∷ tasks) each (s ∷ standings) =
    grind (arith, held_after, All-head, used_is_granted reaches tasks (All-tail IsVerified t tasks each) standings)
used_is_granted reaches tasks each standings = omega arith

-- what the laws need
pub ruleset of_first_kept = (length-map, none-some, slice_get-map, none_passed, none_granted)

pub ruleset of_use = (held_after, peak_within)

pub ruleset of_ends = (nat_tests, early_ends, changes)
