-- Events of several jobs, events one after another, and a recall of each job.
use Rattle.std.proofs.Common.{arith, ◌≡◌, ◌≢◌, ℕ, true, List, [], ◌∷◌, ◌++◌, Option, Some, refl, sym, ◌∙◌, ap, ◌⊎◌}
use Rattle.std.proofs.Common.{zero, suc, ◌<◌, ◌≤◌, length, slice_get, None, option_map}
use Rattle.std.proofs.lemmas.Option.{none-some, same_Some, slice_get-map, slice_get_past}
use Rattle.job_steps.specs.declared.event.Event.{Event}
use Rattle.job_steps.specs.declared.event.Event.TheVariants.{Begin, Recall}
use Rattle.job_steps.specs.EventLaws.{AreApart}
use Rattle.job_steps.specs.Events.{next_standing_of, named_job, job_of, is_open, after_event, after_events, LeadTo}
use Rattle.job_steps.specs.Events.{next_standing, recalled_standing, all_recalls}
use Rattle.job_steps.specs.Standings.{Standing, Queue, of_job}
use Rattle.job_steps.specs.States.{Task}
use Rattle.std.proofs.lemmas.List.{set_comm}
use Rattle.std.proofs.lemmas.Bool.{cases_lt}
use Rattle.job_steps.proofs.Happenings.{Comes, comes, happens, opens, named, same_queue, changes_its_job}
use Rattle.job_steps.proofs.Happenings.{closed_changes_nothing, missing_is_closed}
use Rattle.job_steps.proofs.Admissions.{others_pass_nobody}
use Rattle.job_steps.proofs.Standings.{of_with, of_with_other, set_back, beside_at, with_length}

-- ---- other jobs

module _ (region : ℕ) (tasks : List Task) where
  pub others_stay : (event : Event) (queue : Queue) (job : ℕ) → job_of region tasks event queue ≢ Some job →
      of_job job (after_event region tasks event queue).standings ≡ of_job job queue.standings
  others_stay event queue job other =
      let h = happens region tasks event queue in grind (arith, of_with_other)

  -- an event by the job that it names
  comes_named : (event : Event) (queue : Queue) (job : ℕ) → named_job event ≡ Some job → (next : Option Standing) →
      next_standing_of tasks event queue.standings (Some job) ≡ next → Comes region tasks event queue (Some job) next
  comes_named event queue job e next is =
      comes region tasks event queue (Some job) next (named region tasks event queue job e) is

  -- what an event makes of its job is the same after an event of another
  next_same : (queue : Queue) (one other : Event) (job another : ℕ) → named_job one ≡ Some job → (another ≡ job → ⊥) →
      named_job other ≡ Some another → next_standing_of tasks one (after_event region tasks other queue).standings
      (Some job) ≡ next_standing_of tasks one queue.standings (Some job)
  next_same queue one other job another e apart f = grind (arith, others_stay)

  pub events_commute : (queue : Queue) (one other : Event) (job another : ℕ) → named_job one ≡ Some job →
      named_job other ≡ Some another → job ≢ another → AreApart region tasks one other queue
  events_commute queue one other job another e f apart =
      let next : Option Standing = next_standing_of tasks one queue.standings (Some job) in
      let late : Option Standing = next_standing_of tasks other queue.standings (Some another) in
      let first = comes_named one queue job e next refl in
      let second = comes_named other queue another f late refl in
      let first_late = comes_named one (after_event region tasks other queue) job e next
      (next_same queue one other job another e (λ h. apart (sym h)) f) in
      let second_late = comes_named other (after_event region tasks one queue) another f late
      (next_same queue other one another job f apart e) in
      grind (arith, set_comm)

  -- ---- a recall after a begin

  pub recall_undoes_begin : (queue : Queue) (job : ℕ) → is_open region tasks (Begin job) queue ≡ true →
      is_open region tasks (Recall job) (after_event region tasks (Begin job) queue) ≡ true →
      after_event region tasks (Recall job) (after_event region tasks (Begin job) queue) ≡ queue
  recall_undoes_begin queue job can late =
      let o = opens region tasks (Begin job) queue can in
      let r = opens region tasks (Recall job) (after_event region tasks (Begin job) queue) late in
      grind (arith, of_with, set_back)

  -- ---- lists of events

  pub events_join : (earlier later : List Event) (queue : Queue) →
      after_events region tasks (earlier ++ later) queue
      ≡ after_events region tasks later (after_events region tasks earlier queue)
  events_join [] later queue = refl
  events_join (event ∷ earlier) later queue = grind (arith, (events_join earlier))

  pub leads_join : (old between new : Queue) → LeadTo region tasks old between → LeadTo region tasks between new →
      LeadTo region tasks old new
  leads_join old between new (earlier, first) (later, last) =
      (earlier ++ later, events_join earlier later old ∙ (ap (after_events region tasks later) first ∙ last))

  -- ---- lists

  pub same_places : {X : Type 0} (xs ys : List X) → ((k : ℕ) → slice_get xs k ≡ slice_get ys k) → xs ≡ ys
  same_places [] [] h = refl
  same_places [] (y ∷ ys) h = absurd (none-some y (h 0))
  same_places (x ∷ xs) [] h = absurd (none-some x (sym (h 0)))
  same_places (x ∷ xs) (y ∷ ys) h = cc (same_Some x y (h 0), same_places xs ys (λ k. h (suc k)))

  length_after : (events : List Event) (queue : Queue) → length (after_events region tasks events queue).standings
      ≡ length queue.standings
  length_after [] queue = refl
  length_after (event ∷ events) queue =
      let one = happens region tasks event queue in
      grind (arith, with_length, (length_after events (after_event region tasks event queue)))

  -- ---- one recall

  recall_by : (queue : Queue) (i : ℕ) (task : Task) (s : Standing) → slice_get tasks i ≡ Some task →
      slice_get queue.standings i ≡ Some s →
      ((next_standing (Recall (suc i)) task s ≡ None) × (recalled_standing s ≡ s)) ⊎
      (next_standing (Recall (suc i)) task s ≡ Some (recalled_standing s)) →
      slice_get (after_event region tasks (Recall (suc i)) queue).standings i ≡ Some (recalled_standing s)
  recall_by queue i task s t e how =
      let c = changes_its_job region tasks (Recall (suc i)) queue (suc i) task s refl t e in
      grind (arith, of_with (suc i) queue.standings s (recalled_standing s) e)

  recall_at : (queue : Queue) → length queue.standings ≡ length tasks → (i : ℕ) (o : Option Standing) →
      slice_get queue.standings i ≡ o → slice_get (after_event region tasks (Recall (suc i)) queue).standings i
      ≡ option_map recalled_standing o
  recall_at queue same i None e =
      let closed = missing_is_closed region tasks (Recall (suc i)) queue (suc i) refl e in
      ap (λ (q : Queue). slice_get q.standings i) (closed_changes_nothing region tasks (Recall (suc i)) queue closed) ∙
      e
  recall_at queue same i (Some s) e = grind (arith, beside_at, recall_by)

  recall_other : (queue : Queue) (i k : ℕ) → (k ≡ i → ⊥) → slice_get
      (after_event region tasks (Recall (suc i)) queue).standings k ≡ slice_get queue.standings k
  recall_other queue i k apart =
      others_stay (Recall (suc i)) queue (suc k)
      (λ e. apart (let same : suc i ≡ suc k = same_Some (suc i) (suc k) e in omega (arith, same)))

  -- ---- a recall of each of the first jobs

  -- those that are recalled, and the others
  pub record AreRecalled (queue : Queue) (i : ℕ) : Type 0 where
    pub before : (k : ℕ) → k < i →
        slice_get (after_events region tasks (all_recalls i) queue).standings k
        ≡ option_map recalled_standing (slice_get queue.standings k)
    pub behind : (k : ℕ) → i ≤ k →
        slice_get (after_events region tasks (all_recalls i) queue).standings k ≡ slice_get queue.standings k
    pub passes : (after_events region tasks (all_recalls i) queue).passes ≡ queue.passes

  pub are_recalled : (queue : Queue) → length queue.standings ≡ length tasks → (i : ℕ) → AreRecalled queue i
  are_recalled queue same zero = grind arith
  are_recalled queue same (suc i) =
      grind (arith, events_join, length_after, recall_at, recall_other, others_pass_nobody, are_recalled queue same i)

-- what the law on recalls needs
pub ruleset of_recalls = (same_queue, same_places, slice_get-map, slice_get_past, cases_lt, are_recalled)
