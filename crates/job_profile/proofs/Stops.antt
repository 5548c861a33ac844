-- How far a run has come that looks for a state.
use Rattle.std.proofs.Common.{List, ◌≡◌, ℕ, zero, suc, ◌+◌, ◌-◌, ◌<◌, ◌≤◌, Bool, true, false, cond, refl, sym, ◌∙◌}
use Rattle.std.proofs.Common.{ap, arith}
use Rattle.std.proofs.lemmas.Bool.Decides.{nat_tests}
use Rattle.job_steps.specs.Reached.{IsVerifiedBySome, Reaches}
use Rattle.job_steps.specs.Runs.{state_after, progress_from}
use Rattle.job_steps.specs.States.{Task}
use Rattle.job_steps.specs.Steps.{Progress, Running, Over, Stuck}
use Rattle.job_profile.specs.declared.stop.Stop.{Stop}
use Rattle.job_profile.specs.Moves.{IsOnRun}
use Rattle.job_profile.specs.Stops.{IsAtNone, IsAtStop, held_until, holds_in}
use Rattle.job_profile.specs.Walks.{HasCome, RunState, goes_on, progress_of}
use Rattle.job_profile.proofs.Gone.{further}

-- nothing holds once a run is over
holds_not : (what : Stop (List ℕ)) (p : Progress) → goes_on p ≡ false → holds_in what p ≡ false
holds_not what p over = grind (arith, nat_tests)

-- At a later state it has held no less often; once a run is over it stays so, and there it has held no more often.
later : (what : Stop (List ℕ)) (task : Task) (n more : ℕ) →
    (held_until what task n ≤ held_until what task (n + more))
    × (goes_on (state_after task n) ≡ false →
    (goes_on (state_after task (n + more)) ≡ false) × (held_until what task (n + more) ≡ held_until what task n))
unfolding held_until
later what task n zero = grind arith
later what task n (suc more) =
    let next : n + suc more ≡ suc (n + more) = omega arith in
    rw next (grind (arith, holds_not, later what task n more))

few_in : (what : Stop (List ℕ)) (task : Task) (to n : ℕ) → goes_on (state_after task to) ≡ false →
    held_until what task n ≤ held_until what task to
few_in what task to n over = grind (arith, later what task to (n - to), later what task n (to - n))

-- The run has come on by `least` steps or more, and is to pass `left` other states at which it holds.
pub record IsSeeking (what : Stop (List ℕ)) (skip : ℕ) (old : RunState) (least : ℕ) (new : RunState) (left : ℕ) :
    Type 0 where
  pub from : ℕ
  pub to : ℕ
  pub was : progress_of old ≡ state_after old.task from
  pub least_is : from + least ≤ to
  pub come : HasCome old.task (state_after old.task to) new
  pub others : held_until what old.task to + left ≡ held_until what old.task from + skip

pub first_seeking : {what : Stop (List ℕ)} {skip : ℕ} {inside r : RunState} →
    IsOnRun inside.task (progress_of inside) → inside ≡ r → IsSeeking what skip r 0 r skip
first_seeking h view = rw (← view) (record {
  from = h.steps;
  to = h.steps;
  was = h.come;
  least_is = omega arith;
  come = record { task_is = refl; progress_is = h.come };
  others = refl;
})

module _ {what : Stop (List ℕ)} {skip : ℕ} {old : RunState} {least : ℕ} {mid : RunState} {left : ℕ}
    (h : IsSeeking what skip old least mid left) where
  pub ends : goes_on (progress_of mid) ≡ false → IsAtNone what skip old mid
  ends over = record {
    from = h.from;
    to = h.to;
    was = h.was;
    later = omega arith;
    come = h.come;
    over = over;
    few = λ n. omega (arith, few_in what old.task h.to n (sym (ap goes_on h.come.progress_is) ∙ over));
  }

  -- a run that has come farther than its budget is over
  pub far_is_over : Reaches → IsVerifiedBySome old.task.verified → old.task.limits.budget < least →
      goes_on (progress_of mid) ≡ false
  far_is_over reaches v far = ap goes_on h.come.progress_is ∙ by (state_after old.task h.to) refl
    where
      by : (p : Progress) → state_after old.task h.to ≡ p → goes_on p ≡ false
      by (Running s) is = absurd (omega (arith, (reaches v.0 old.task v.1 h.to s is).budget, far, h.least_is))
      by (Over ending executed peak) is = refl
      by Stuck is = refl

  module _ {run : RunState} {b : Bool} (is : b ≡ holds_in what (progress_of run)) (same : run ≡ mid) where
    pub seeking_by : {new : RunState} (next : ℕ) → HasCome mid.task (progress_from mid.task (progress_of mid)) new →
        left ≡ next + cond b 1 0 → IsSeeking what skip old (least + 1) new next
    unfolding held_until
    seeking_by next e less = record {
      from = h.from;
      to = suc h.to;
      was = h.was;
      least_is = omega arith;
      come = further old.task h.to h.come e;
      others = grind (arith, h.come.progress_is);
    }

    pub stops : b ≡ true → left ≡ 0 → IsAtStop what skip old mid
    stops holds none = record {
      from = h.from;
      to = h.to;
      was = h.was;
      later = omega arith;
      come = h.come;
      holds = grind arith;
      others = omega arith;
    }
