-- What is true of the parts that a program is held in.
use Rattle.std.specs.Prelude.{◌≡◌, ℕ, List, length, map, unwrap_or}
use Rattle.vcode_reader.specs.Callees.{callee_of}
use Rattle.vcode_reader.specs.Trees.{CodeLine, Function, HaveProperBodies, lines_of}

-- the place of the function that a line calls; the place past the last function stands for none
abbrev pub held_callee : List Function → CodeLine → ℕ
held_callee fs x = unwrap_or (callee_of fs x.item) (length fs)

unfoldable pub held_callees : List Function → List (List ℕ)
held_callees fs = map (λ f. map (held_callee fs) (lines_of f)) fs

-- the callees are those of the functions; no body holds a RET or an instruction IF, and each list is of its kind
pub record HoldsProgram (functions : List Function) (found : List (List ℕ)) : Type 0 where
  pub callees : found ≡ held_callees functions
  pub proper : HaveProperBodies functions
