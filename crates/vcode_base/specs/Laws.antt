-- What the definitions of meaning promise, for every instruction.
use Rattle.std.specs.Prelude.{ℕ, ℤ, pos, ◌≡◌, ◌<◌, false, List, length, slice_index_or, None}
use Rattle.std.specs.List.{list_any}
use Rattle.vcode_base.specs.Elements.{is_outside}
use Rattle.vcode_base.specs.Kinds.{source_kinds}
use Rattle.vcode_base.specs.Meaning.{shape, need, value_fault, result_of, second_result_of}
use Rattle.vcode_base.specs.Segments.{element, has_twice, permutation_of}
use Rattle.vcode_base.specs.declared.op.Op.{Op}

-- if an instruction has as many operands as it takes and no fault, its results have the needed lengths
abbrev pub ResultsHaveNeededLengths : Type 0
ResultsHaveNeededLengths = (op : Op) (xs : List (List ℤ)) → length xs ≡ length (source_kinds op) → shape op xs ≡ None
    → value_fault op xs ≡ None
    → need op xs ≡ (length (result_of op xs), length (second_result_of op xs))

-- if the indices of a segment are its places, each once, the element at place p of the segment is at its index in the
-- permuted one
abbrev pub EachElementAtItsIndex : Type 0
EachElementAtItsIndex = (xs is : List ℤ) → length is ≡ length xs → list_any (is_outside (length xs)) is ≡ false
    → has_twice is ≡ false
    → (p : ℕ) → p < length xs → element (permutation_of xs is) (slice_index_or is p (pos 0)) ≡ slice_index_or xs p
    (pos 0)
