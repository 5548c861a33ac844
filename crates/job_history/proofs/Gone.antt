-- A run at a state, and as it goes on.
use Rattle.std.proofs.Common.{add-one, ◌≡◌, ℕ, ◌+◌, ◌-◌, ◌<◌, ◌≤◌, ◌^◌, true, List, [], None, sym, ◌∙◌, ap, arith}
use Rattle.job_steps.specs.Reached.{IsVerifiedBySome, Reaches}
use Rattle.job_steps.specs.Runs.{state_after}
use Rattle.job_steps.specs.States.{State, Task}
use Rattle.job_steps.specs.Steps.{Progress, Running}
use Rattle.job_profile.specs.Walks.{RunState, ending_at, first_run, goes_on, progress_of}
use Rattle.job_history.specs.Kept.{AreKept, KeptState}
use Rattle.job_history.specs.Places.{AllGoOn, IsLater, Place}
use Rattle.job_history.specs.Sound.{Advances, HasGone, IsAt, IsFilled, IsFirst, IsSound, place_by}

-- a state that goes on has no ending
pub none_at : (p : Progress) → goes_on p ≡ true → None ≡ ending_at p
none_at p on = grind arith

pub passed_more : (task : Task) (n : ℕ) → AllGoOn task n → goes_on (state_after task n) ≡ true → AllGoOn task (n + 1)
passed_more task n h on = grind arith

-- it is counted by a number that fits
pub fits : Reaches → {run : RunState} {n : ℕ} → IsAt run n → goes_on (progress_of run) ≡ true → n + 1 < 2 ^ 64
fits reaches {run} {n} h on =
    let found : (s : State) × (progress_of run ≡ Running s) = grind arith in
    omega (
      arith,
      (reaches h.verified.0 run.task h.verified.1 n found.0 (sym h.come ∙ found.1)).budget,
      run.task.limits.budget_in_range,
    )

pub first_at : (task : Task) (run : RunState) → run ≡ first_run task → IsVerifiedBySome task.verified → IsAt run 0
first_at task run is verified = rw is (grind arith)

pub gone_one : {old new : RunState} {n : ℕ} → IsAt old n → goes_on (progress_of old) ≡ true → Advances old new →
    HasGone 1 old n new (n + 1)
gone_one {old} {new} {n} h on a =
    let passed = passed_more old.task n h.passed (ap goes_on (sym h.come) ∙ on) in grind (arith, passed, add-one)

-- ---- from a state before that of the run

pub later_within : (run : RunState) (at end count to : ℕ) → IsAt run end → at ≤ end → count < end - at →
    to ≡ end - (end - at - count) → IsLater count (place_by run at) (place_by run to)
later_within run at end count to h before less is = grind arith

pub later_gone : (run : RunState) (at end count : ℕ) (new : Place) → at ≤ end → end - at ≤ count →
    IsLater (count - (end - at)) (place_by run end) new → IsLater count (place_by run at) new
later_gone run at end count new before left h = grind arith

pub all_anew : (run other : RunState) (task : Task) (target end : ℕ) → IsAt run end → target < end →
    other ≡ first_run task → task ≡ run.task → AllGoOn other.task (target + 1)
all_anew run other task target end h less first same = rw first (rw same (grind arith))

-- ---- what is kept, after a move

pub sound_at : (old new : RunState) (to first : ℕ) (states : List KeptState) → AreKept old.task first states →
    new.task ≡ old.task → IsAt new to → IsSound new to first states to
sound_at old new to first states kept same run_at = grind arith

pub sound_first : (run : RunState) (n first : ℕ) (states : List KeptState) → IsFirst run n → states ≡ [] →
    IsSound run n first states 0
sound_first run n first states h none = grind arith

pub sound_filled : (task : Task) (target : ℕ) (run : RunState) (at first : ℕ) (states : List KeptState) →
    IsFilled task target run at first states → IsSound run at first states target
sound_filled task target run at first states h = grind arith

-- a run is at the state of a history, if that is its own
pub come_to : {run : RunState} {end at : ℕ} → IsAt run end → at ≡ end → progress_of run ≡ state_after run.task at
come_to {run} h same = h.come ∙ ap (state_after run.task) (sym same)
