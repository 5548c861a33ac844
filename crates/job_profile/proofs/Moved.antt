-- What was held and needed at an instruction that was executed, by what is held afterwards.
use Rattle.std.proofs.Common.{◌≡◌, ℕ, ◌+◌, ◌-◌, ◌<◌, ◌^◌, min, List, [], ◌∷◌, length, false, true, refl, sym, arith}
use Rattle.vcode_base.specs.declared.rule.Rule.TheVariants.{First, Second}
use Rattle.vcode_base.specs.declared.rule.Rule.{Rule}
use Rattle.vcode_base.specs.declared.op.Op.{Op}
use Rattle.vcode_base.specs.declared.op.Op.TheVariants.{Return}
use Rattle.vcode_base.specs.Instructions.{op_of}
use Rattle.vcode_base.specs.Kinds.{result_kinds}
use Rattle.vcode_base.specs.Meaning.{need}
use Rattle.job_steps.specs.Counted.{ExecutedAreCounted, LastIsReturn, is_move}
use Rattle.job_steps.specs.Runs.{peak_in}
use Rattle.job_steps.specs.Standings.{held_in}
use Rattle.job_steps.specs.Frames.{next_line}
use Rattle.job_steps.specs.States.{Task, Active, State, held_words}
use Rattle.job_steps.specs.Steps.{Progress, Running, Over, Stuck, next_item, next_progress}
use Rattle.job_slots.specs.Answers.{demand_in}
use Rattle.job_profile.specs.declared.coming.Effect.{Effect}
use Rattle.job_profile.specs.Comings.{coming_in, does_move, effect_of, made_in, result_count}
use Rattle.job_profile.specs.Moves.{HasExecuted}

-- if it moves entries or calls, all that was held counts, and nothing is needed
pub demand_moved : (rule : Rule) (p : Progress) → does_move (coming_in p).effect ≡ true → demand_in rule p ≡ held_in p
unfolding need
demand_moved rule p e = grind arith

-- ---- the next instruction of a call, by what it does

abbrev effect_at : Active → Effect
effect_at call = effect_of (next_line call).item

abbrev op_at : Active → Op
op_at call = op_of (next_item call).item

counts_by : (call : Active) → result_count (effect_at call) ≡ length (result_kinds (op_at call))
counts_by call = grind arith

others_by : (call : Active) → does_move (effect_at call) ≡ false → is_move (op_at call) ≡ false
others_by call other = grind arith

returns_by : (call : Active) → op_at call ≡ Return → does_move (effect_at call) ≡ true
returns_by call is = grind arith

coming_by_call : (s : State) (call : Active) (outer : List Active) → s.calls ≡ call ∷ outer →
    (coming_in (Running s)).effect ≡ effect_at call
coming_by_call s call outer is = grind arith

-- without a call nothing is executed
none_executed : (task : Task) (s : State) (q : Progress) → s.calls ≡ [] → HasExecuted task (Running s) q → ⊥
unfolding next_progress
none_executed task s q none x = grind arith

-- ---- the words

module _ (counted : ExecutedAreCounted) (last : LastIsReturn) (task : Task) where
  first_at : (s : State) (calls : List Active) → s.calls ≡ calls → (q : Progress) → HasExecuted task (Running s) q →
      demand_in First (Running s) ≡ held_words s.stack + made_in (coming_in (Running s)).effect q
  first_at s [] none q x = absurd (none_executed task s q none x)
  first_at s (call ∷ outer) is (Running next) x =
      let c = counted task s.executed s next (sym x.before) (sym x.after) call outer is in
      grind (arith, c.first, counts_by call, coming_by_call s call outer is)
  first_at s (call ∷ outer) is (Over ending executed peak) x =
      let r = last task s.executed s (sym x.before) ending executed peak (sym x.after) x.executed call outer is in
      let moves = returns_by call r in
      grind (arith, demand_moved First (Running s), coming_by_call s call outer is)
  first_at s (call ∷ outer) is Stuck x = absurd (omega (arith, x.executed))

  -- by the first rule what was held before counts, and the results
  pub demand_first : (p q : Progress) → HasExecuted task p q →
      demand_in First p ≡ held_in p + made_in (coming_in p).effect q
  demand_first (Running s) q x = first_at s s.calls refl q x
  demand_first (Over ending executed peak) q x = grind arith
  demand_first Stuck q x = grind arith

  second_at : (s : State) (calls : List Active) → s.calls ≡ calls → (q : Progress) → HasExecuted task (Running s) q →
      does_move (coming_in (Running s)).effect ≡ false → demand_in Second (Running s) ≡ held_in q
  second_at s [] none q x other = absurd (none_executed task s q none x)
  second_at s (call ∷ outer) is (Running next) x other =
      let c = counted task s.executed s next (sym x.before) (sym x.after) call outer is in
      grind (arith, c.second, others_by call, coming_by_call s call outer is)
  second_at s (call ∷ outer) is (Over ending executed peak) x other =
      let r = last task s.executed s (sym x.before) ending executed peak (sym x.after) x.executed call outer is in
      let moves = returns_by call r in
      grind (arith, coming_by_call s call outer is)
  second_at s (call ∷ outer) is Stuck x other = absurd (omega (arith, x.executed))

  -- by the second rule it is what is held afterwards
  pub demand_second : (p q : Progress) → HasExecuted task p q → does_move (coming_in p).effect ≡ false →
      demand_in Second p ≡ held_in q
  demand_second (Running s) q x other = second_at s s.calls refl q x other
  demand_second (Over ending executed peak) q x other = grind arith
  demand_second Stuck q x other = grind arith

  -- ---- what is found of it

  pub found_first : {effect : Effect} {held made most : ℕ} {q : Progress} → task.rule ≡ First → peak_in q < 2 ^ 64 →
      (made_in effect q < 2 ^ 64 → made ≡ made_in effect q) → most ≡ min (held + made) (2 ^ 64 - 1) →
      (p : Progress) → HasExecuted task p q → effect ≡ (coming_in p).effect → held ≡ held_in p →
      most ≡ demand_in task.rule p
  found_first rule small made_is most_is p x effect_is held_is =
      let d = demand_first p _ x in
      let e = rw rule at x.peak_is in
      rw rule (grind (arith, d, e))

  pub found_moved : {effect : Effect} {held : ℕ} {q : Progress} → does_move effect ≡ true → (p : Progress) →
      HasExecuted task p q → effect ≡ (coming_in p).effect → held ≡ held_in p → held ≡ demand_in task.rule p
  found_moved moves p x effect_is held_is = grind (arith, demand_moved)

  pub found_second : {effect : Effect} {held most : ℕ} {q : Progress} → task.rule ≡ Second → does_move effect ≡ false →
      most ≡ held_in q → (p : Progress) → HasExecuted task p q → effect ≡ (coming_in p).effect → held ≡ held_in p →
      most ≡ demand_in task.rule p
  found_second rule other most_is p x effect_is held_is = rw rule (grind (arith, demand_second))
