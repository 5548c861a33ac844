-- What one instruction makes of a state: the ways in which it may go on.
use Rattle.std.proofs.Common.{arith, ◌≡◌, ℕ, Bool, true, false, cond, eqb, List, [], ◌∷◌, Option, Some, None, refl, ◌∙◌}
use Rattle.vcode_base.specs.declared.fault.DataFault.{DataFault}
use Rattle.vcode_base.specs.declared.fault.MemoryFault.{MemoryFault}
use Rattle.vcode_base.specs.declared.outcome.Outcome.{Outcome}
use Rattle.vcode_base.specs.declared.outcome.Outcome.TheVariants.{Returned, Fault, Budget}
use Rattle.vcode_base.specs.Instructions.{op_of}
use Rattle.vcode_base.specs.Meaning.{value_fault}
use Rattle.vcode_reader.specs.Trees.{Item}
use Rattle.job_steps.specs.States.{Vector, Task, Active, State}
use Rattle.job_steps.specs.Steps.{Progress, Over, Stuck, next_item, sources_of, question_of, flag_of, can_run}
use Rattle.job_steps.specs.Steps.{early_ending, ending_by, calls_after, progress_past, progress_by, progress_unless}
use Rattle.job_steps.specs.Steps.{progress_in, next_progress}
use Rattle.job_steps.specs.Events.{early_end}

abbrev pub item_of : Active → Item
item_of call = (next_item call).item

-- the calls after the next item of a call
abbrev pub calls_then : Task → State → Active → List Active → List Active
calls_then task s call outer =
    calls_after task.verified (flag_of (question_of (item_of call) s.stack)) call.rest call.ret outer

-- the next instruction passes all that is checked
pub record Passes (task : Task) (s : State) (call : Active) (outer : List Active) : Type 0 where
  pub calls : s.calls ≡ call ∷ outer
  pub unspent : eqb s.executed task.limits.budget ≡ false
  pub runs : can_run task.verified (item_of call) s.stack ≡ true
  pub early : early_ending task (next_item call) s ≡ None
  pub late : value_fault (op_of (item_of call)) (sources_of (item_of call) s.stack) ≡ None

-- no end by return
abbrev pub IsNoReturn : Outcome (List Vector) → Type 0
IsNoReturn (Returned values) = ⊥
IsNoReturn ending = Unit {0}

-- a progress is one of these: an end before the values are looked at, no way to go on, a fault of the values, or the
-- instruction is executed
pub data Goes (task : Task) (s : State) (p : Progress) : Type 0 where
  Ends : (ending : Outcome (List Vector)) → IsNoReturn ending → early_end task s ≡ Some ending →
      p ≡ Over ending s.executed s.peak → Goes task s p
  Idles : s.calls ≡ [] → p ≡ Stuck → Goes task s p
  Blocks : (call : Active) (outer : List Active) → s.calls ≡ call ∷ outer →
      can_run task.verified (item_of call) s.stack ≡ false → p ≡ Stuck → Goes task s p
  Faults : (call : Active) (outer : List Active) (fault : DataFault) → s.calls ≡ call ∷ outer →
      can_run task.verified (item_of call) s.stack ≡ true → early_end task s ≡ None →
      value_fault (op_of (item_of call)) (sources_of (item_of call) s.stack) ≡ Some fault →
      p ≡ Over (Fault fault (next_item call).number) s.executed s.peak → Goes task s p
  Executes : (call : Active) (outer : List Active) → Passes task s call outer →
      p ≡ progress_past task.rule (item_of call) s (calls_then task s call outer) → Goes task s p

no_return : (line : ℕ) (a : Option DataFault) (b : Option MemoryFault) (e : Outcome (List Vector)) →
    ending_by line a b ≡ Some e → IsNoReturn e
no_return line a b e h = grind arith

module _ (task : Task) (s : State) (unspent : eqb s.executed task.limits.budget ≡ false) where
  early_at : (call : Active) (outer : List Active) → s.calls ≡ call ∷ outer →
      early_end task s ≡ early_ending task (next_item call) s
  early_at call outer calls = grind arith

  by_values : (call : Active) (outer : List Active) → s.calls ≡ call ∷ outer →
      can_run task.verified (item_of call) s.stack ≡ true → early_ending task (next_item call) s ≡ None →
      (o : Option DataFault) → value_fault (op_of (item_of call)) (sources_of (item_of call) s.stack) ≡ o →
      Goes task s (progress_by task.rule o (next_item call) s (calls_then task s call outer))
  by_values call outer calls runs early (Some fault) is =
      Faults call outer fault calls runs (early_at call outer calls ∙ early) is refl
  by_values call outer calls runs early None is =
      Executes call outer (record { calls = calls; unspent = unspent; runs = runs; early = early; late = is }) refl

  by_checks : (call : Active) (outer : List Active) → s.calls ≡ call ∷ outer → (b : Bool) →
      can_run task.verified (item_of call) s.stack ≡ b → (o : Option (Outcome (List Vector))) →
      early_ending task (next_item call) s ≡ o → Goes task s (cond b (progress_unless o s (progress_by task.rule
      (value_fault (op_of (item_of call)) (sources_of (item_of call) s.stack)) (next_item call) s
      (calls_then task s call outer))) Stuck)
  by_checks call outer calls true runs (Some ending) is =
      Ends ending (no_return _ _ _ ending is) (early_at call outer calls ∙ is) refl
  by_checks call outer calls true runs None is = by_values call outer calls runs is _ refl
  by_checks call outer calls false runs o is = Blocks call outer calls runs refl

by_budget : (task : Task) (s : State) (b : Bool) → eqb s.executed task.limits.budget ≡ b → (calls : List Active) →
    s.calls ≡ calls → Goes task s (cond b (Over Budget s.executed s.peak) (progress_in task s calls))
by_budget task s true spent calls is = Ends Budget tt (rw spent refl) refl
by_budget task s false spent [] is = Idles is refl
by_budget task s false spent (call ∷ outer) is = by_checks task s spent call outer is _ refl _ refl

pub goes : (task : Task) (s : State) → Goes task s (next_progress task s)
unfolding next_progress
goes task s = by_budget task s _ refl _ refl
