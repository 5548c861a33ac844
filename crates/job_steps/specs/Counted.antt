-- What counted at an instruction that was executed, by the entries that it left.
use Rattle.std.specs.Prelude.{◌≡◌, ℕ, ℤ, zero, suc, ◌+◌, Bool, true, false, List, [], ◌∷◌, length}
use Rattle.vcode_base.specs.declared.op.Op.{Op}
use Rattle.vcode_base.specs.declared.op.Op.TheVariants.{Move, Return}
use Rattle.vcode_base.specs.declared.rule.Rule.TheVariants.{First, Second}
use Rattle.vcode_base.specs.Instructions.{op_of}
use Rattle.vcode_base.specs.Kinds.{result_kinds}
use Rattle.vcode_reader.specs.Trees.{Item}
use Rattle.job_steps.specs.Runs.{state_after}
use Rattle.job_steps.specs.States.{Task, Active, State, held_words, words_of}
use Rattle.job_steps.specs.Steps.{Ending, Running, Over, next_item, words_at}

-- the words of this many lists from the first on
abbrev pub top_words : ℕ → List (List ℤ) → ℕ
top_words zero lists = 0
top_words (suc count) [] = 0
top_words (suc count) (list ∷ lists) = length list + top_words count lists

abbrev pub is_move : Op → Bool
is_move (Move motion lower upper) = true
is_move op = false

-- By the first rule what was held before counted, and the results. By the second it is what is held afterwards, unless
-- the instruction moved entries.
pub record IsCounted (item : Item) (s next : State) : Type 0 where
  pub first : words_at First item s ≡ held_words s.stack + top_words (length (result_kinds (op_of item)))
      (words_of next.stack)
  pub second : is_move (op_of item) ≡ false → words_at Second item s ≡ held_words next.stack

-- so it is with each instruction that is executed and after which the job goes on
abbrev pub ExecutedAreCounted : Type 0
ExecutedAreCounted =
    (task : Task) (n : ℕ) (s next : State) → state_after task n ≡ Running s →
    state_after task (suc n) ≡ Running next → (call : Active) (outer : List Active) → s.calls ≡ call ∷ outer →
    IsCounted (next_item call).item s next

-- Only a RET is executed and ends the run.
abbrev pub LastIsReturn : Type 0
LastIsReturn =
    (task : Task) (n : ℕ) (s : State) → state_after task n ≡ Running s →
    (ending : Ending) (executed peak : ℕ) → state_after task (suc n) ≡ Over ending executed peak →
    executed ≡ s.executed + 1 → (call : Active) (outer : List Active) → s.calls ≡ call ∷ outer →
    op_of (next_item call).item ≡ Return
