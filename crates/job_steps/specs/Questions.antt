-- An instruction with what its results are computed from.
use Rattle.std.specs.Prelude.{ℕ, ℤ, ◌+◌, List}
use Rattle.vcode_base.specs.declared.op.Op.{Op}
use Rattle.vcode_base.specs.Meaning.{need}

-- an instruction with what its results are computed from: its operands from the bottom up, or the list of a CONST
pub record Question : Type 0 where
  pub op : Op
  pub sources : List (List ℤ)

-- the words of both results
abbrev pub need_words : Question → ℕ
need_words q = (need q.op q.sources).0 + (need q.op q.sources).1
