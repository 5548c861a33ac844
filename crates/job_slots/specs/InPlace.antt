-- When an instruction's results can be computed where they are placed.
use Rattle.std.specs.Prelude.{◌≡◌, ℕ, ℤ, ◌+◌, ◌≤◌, Bool, true, false, List, [], ◌∷◌, length, map, slice_index_or}
use Rattle.std.specs.Prelude.{zero, suc, Some, None}
use Rattle.vcode_base.specs.declared.op.Op.{Op}
use Rattle.vcode_base.specs.declared.op.Op.TheVariants.{Const}
use Rattle.vcode_base.specs.declared.rule.Rule.{Rule}
use Rattle.vcode_base.specs.declared.rule.Rule.TheVariants.{First, Second}
use Rattle.vcode_base.specs.Kinds.{HaveKinds, source_kinds, result_kinds}
use Rattle.vcode_base.specs.Meaning.{shape, need}
use Rattle.refcounts.specs.Making.{words_at}
use Rattle.refcounts.specs.SharedState.{slot_in}
use Rattle.job_memory.specs.JobBlocks.{JobBlocks, AreOwn, ChangesOnlyOf, held_words, own_slots}
use Rattle.job_steps.specs.Motions.{operand_count}
use Rattle.job_steps.specs.States.{Task}
use Rattle.job_steps.specs.Tickets.{AreResults, question_by}
use Rattle.job_steps.specs.Tracks.{TrackState}
use Rattle.job_slots.specs.declared.in_place.Placement.{Placement}
use Rattle.job_slots.specs.Answers.{question_at}
use Rattle.job_slots.specs.Commits.{blocks_beside, taken_ids}
use Rattle.job_slots.specs.Executions.{HasExchanged}

abbrev pub is_constant : Op → Bool
is_constant (Const k) = true
is_constant op = false

-- the instruction makes results of these numbers of words of these operands, unless their values have a fault
pub record CanCompute (op : Op) (sources : List (List ℤ)) (needed : ℕ × ℕ) : Type 0 where
  pub kinds : HaveKinds (source_kinds op) sources
  pub shaped : shape op sources ≡ None
  pub needs : need op sources ≡ needed

-- how many results an instruction has, by the words of its second one: if that has none, there is no second
abbrev pub result_count : ℕ → ℕ
result_count zero = 1
result_count (suc n) = 2

-- the words of the operands, from the bottom of the stack up
abbrev pub operands_in : JobBlocks → Op → List ℕ → List (List ℤ)
operands_in blocks op cells = map (words_at blocks.memory) (taken_ids op cells)

-- the number that counts under a rule
abbrev pub words_by : Rule → (under_first under_second : ℕ) → ℕ
words_by First under_first under_second = under_first
words_by Second under_first under_second = under_second

-- the operands of a DPERMUTE, from the four others and its default, which is the third
abbrev pub with_third : {X : Type 0} → X → List X → X → List X
with_third none others default =
    slice_index_or others 0 none ∷ slice_index_or others 1 none ∷ default ∷ slice_index_or others 2 none
    ∷ slice_index_or others 3 none ∷ []

-- Blocks of these numbers have the results, in the place of the operands, which may as well have gone before. Their
-- words and those that are held count by the rule.
pub record AreComputed (rule : Rule) (job : ℕ) (op : Op) (taken ids : List ℕ) (old new : JobBlocks) : Type 0 where
  pub first : List ℤ
  pub second : List ℤ
  pub results : AreResults (question_by op (map (words_at old.memory) taken)) first second
  pub exchanged : (cells : List ℕ) → taken_ids op cells ≡ taken → HasExchanged Second job op first second
      cells ids old new
  pub counted : words_by rule (held_words job old + length first + length second) (held_words job new)
      ≡ held_words job (blocks_beside rule taken old) + length first + length second

-- as many references name each of the job's blocks as before, and no other job's blocks changed
pub record KeepsReferences (job : ℕ) (old new : JobBlocks) : Type 0 where
  pub counts : (id : ℕ) → (slot_in (own_slots job new) id).count ≡ (slot_in (own_slots job old) id).count
  pub others : ChangesOnlyOf job old new

-- the instruction is the next of the job, its operands are on the stack, and the job has room beside them for its
-- results, of these numbers of words
pub record IsPlaceable (task : Task) (job : ℕ) (blocks : JobBlocks) (t : TrackState ℕ) (p : Placement) : Type 0 where
  pub question : question_at task t.executed ≡ Some (question_by p.op (operands_in blocks p.op t.cells))
  pub can : CanCompute p.op (operands_in blocks p.op t.cells) (p.first, p.second)
  pub count : length (result_kinds p.op) ≡ result_count p.second
  pub deep : operand_count p.op ≤ length t.cells
  pub own : AreOwn job blocks (taken_ids p.op t.cells)
  pub room : held_words job blocks + p.first + p.second ≤ task.limits.words
