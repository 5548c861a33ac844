-- Where a search ends.
use Rattle.std.proofs.Common.{◌≡◌, ℕ, ◌+◌, ◌-◌, ◌<◌, ◌≤◌, Bool, true, false, cond, List, Option, Some, None, arith}
use Rattle.job_steps.specs.Runs.{state_after}
use Rattle.job_steps.specs.States.{Task}
use Rattle.job_profile.specs.declared.stop.Stop.{Stop}
use Rattle.job_profile.specs.Walks.{goes_on}
use Rattle.job_history.specs.declared.goal.Found.{Found}
use Rattle.job_history.specs.Goals.{EndsAtFirst, EndsBack, EndsBefore, EndsHere, EndsKept, EndsNotYet, EndsNowhere}
use Rattle.job_history.specs.Goals.{IsLast, IsMissed, meets}
use Rattle.job_history.specs.Places.{AllGoOn, IsLater, Place, moved_to, state_at}

pub missed_none : (stops : List (Stop (List ℕ))) (calls : ℕ) (task : Task) (from to : ℕ) → to ≤ from →
    IsMissed stops calls task from to
missed_none stops calls task from to le = record { each = λ n low high. absurd (omega arith) }

pub same_place : (x y : Place) → x.task ≡ y.task → x.at ≡ y.at → x ≡ y
same_place x y t n = λ i. record { task = t i; at = n i }

-- the state after this one, of a run that goes on before the state of a number
pub next_place : (old mid new : Place) (n end : ℕ) → mid ≡ moved_to old n → AllGoOn old.task end → n < end →
    IsLater 1 mid new → new ≡ moved_to old (n + 1)
next_place old mid new n end is on less h = grind arith

-- ---- forward

-- none of the next `done` states is sought
pub record IsSearched (stops : List (Stop (List ℕ))) (calls done : ℕ) (old new : Place) : Type 0 where
  pub task_is : new.task ≡ old.task
  pub at_is : new.at ≡ old.at + done
  pub missed : IsMissed stops calls old.task (old.at + 1) (new.at + 1)

module _ (stops : List (Stop (List ℕ))) (calls : ℕ) (old : Place) where
  module _ (done : ℕ) (mid new : Place) (h : IsSearched stops calls done old mid)
      (on : goes_on (state_at mid) ≡ true) (l : IsLater 1 mid new) where
    pub more_searched : meets stops calls (state_at new) ≡ false → IsSearched stops calls (done + 1) old new
    more_searched not = grind arith

    pub found_here : (most : ℕ) → done < most → meets stops calls (state_at new) ≡ true →
        EndsHere stops calls most old new
    found_here most less met = grind arith

  pub found_nowhere : (done most : ℕ) (new : Place) → IsSearched stops calls done old new → done ≤ most →
      goes_on (state_at new) ≡ false → EndsNowhere stops calls most old new
  found_nowhere done most new h le over = grind arith

  pub not_found : (done most : ℕ) (new : Place) → IsSearched stops calls done old new → done ≡ most →
      goes_on (state_at new) ≡ true → EndsNotYet stops calls most old new
  not_found done most new h is on = grind arith

  -- ---- back

  pub ends_back : (found : Found) (mid new : Place) → EndsBack found stops calls mid new → mid.task ≡ old.task →
      mid.at ≤ old.at → IsMissed stops calls old.task mid.at old.at → EndsBack found stops calls old new
  ends_back found mid new h same le missed = grind arith

  pub last_more : (task : Task) (last next : Option ℕ) (n : ℕ) (met : Bool) → IsLast last stops calls task n →
      meets stops calls (state_after task n) ≡ met → next ≡ cond met (Some n) last →
      IsLast next stops calls task (n + 1)
  last_more task last next n met h is next_is = grind arith

-- the state before one is kept
module _ (stops : List (Stop (List ℕ))) (calls : ℕ) (old mid new : Place) (n : ℕ) (there : Bool)
    (is : new ≡ cond there (moved_to mid (n - 1)) mid) (kept : there ≡ true) (at : n ≡ mid.at) (some : 0 < n)
    (h : EndsKept false stops calls old mid) where
  pub found_kept : meets stops calls (state_at new) ≡ true → EndsBefore stops calls old new
  found_kept met = grind arith

  pub missed_kept : meets stops calls (state_at new) ≡ false → EndsKept false stops calls old new
  missed_kept not = grind arith

-- runs that are made anew
module _ (stops : List (Stop (List ℕ))) (calls : ℕ) (old first there new : Place) (end n : ℕ) (last : Option ℕ)
    (anew : first ≡ moved_to old 0) (gone : there ≡ moved_to first end) (back : new ≡ moved_to there n)
    (at : end ≡ old.at) (h : IsLast last stops calls first.task end) where
  pub found_anew : last ≡ Some n → EndsBefore stops calls old new
  found_anew is = grind arith

  pub none_anew : last ≡ None → n ≡ 0 → EndsAtFirst stops calls old new
  none_anew is zero_is = grind arith

pub none_before : (stops : List (Stop (List ℕ))) (calls : ℕ) (old : Place) → old.at ≡ 0 →
    EndsAtFirst stops calls old old
none_before stops calls old is = grind arith
