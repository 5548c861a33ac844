-- For each instruction: when the shapes of its operands don't fit, how long its results are, when it has none, and what
-- they are.
use Rattle.std.specs.Prelude.{ℕ, ℤ, pos, ◌==◌, nat_lt, Bool, not, ◌||◌, if◌then◌else◌, List, [], ◌∷◌, length}
use Rattle.std.specs.Prelude.{map, zip, flat_map, filter, count_by, replicate, slice_index_or, slice_set}
use Rattle.std.specs.Prelude.{unsigned_abs, Option, Some, None, int_lt}
use Rattle.std.specs.List.{list_any}
use Rattle.vcode_base.specs.Elements.{flag, is_set, is_outside, arithmetic, arithmetic_fault, comparison}
use Rattle.vcode_base.specs.Elements.{logic, negation, fold_of}
use Rattle.vcode_base.specs.declared.limits.TheConstants.{MOST_TOTAL}
use Rattle.vcode_base.specs.Segments.{sizes, total, segments, folds_before, progression, element, scatter_of}
use Rattle.vcode_base.specs.Segments.{permutation_of, has_twice, any_outside}
use Rattle.vcode_base.specs.declared.op.Op.{Op}
use Rattle.vcode_base.specs.declared.op.Op.TheVariants.{Const, Elementwise, Segmented, If, Move, Call, Return}
use Rattle.vcode_base.specs.declared.op.Elementwise.{Elementwise as ElementwiseOp}
use Rattle.vcode_base.specs.declared.op.Elementwise.TheVariants.{Arith, Compare, Logic, Not, Select}
use Rattle.vcode_base.specs.declared.op.Elementwise.TheVariants.{IntToBool, BoolToInt}
use Rattle.vcode_base.specs.declared.op.Segmented.{Segmented as SegmentedOp}
use Rattle.vcode_base.specs.declared.op.Segmented.TheVariants.{Scan, Reduce, Distribute, Index, Permute}
use Rattle.vcode_base.specs.declared.op.Segmented.TheVariants.{BackPermute, DefaultPermute, Extract, Replace}
use Rattle.vcode_base.specs.declared.op.Segmented.TheVariants.{Pack, MakeSegdes, Lengths}
use Rattle.vcode_base.specs.declared.fault.DataFault.{DataFault}
use Rattle.vcode_base.specs.declared.fault.DataFault.TheVariants.{LengthsDiffer, SegmentTotal, SegmentCount}
use Rattle.vcode_base.specs.declared.fault.DataFault.TheVariants.{BadIndex, IndexTwice, BadLength, NotSingle}

-- one of the operands, which are counted from the bottom of the stack up; of a CONST its list is the only one
abbrev pub operand : List (List ℤ) → ℕ → List ℤ
operand xs k = slice_index_or xs k []

-- the fault of the first test that is true
abbrev pub first_fault : List (Bool × DataFault) → Option DataFault
first_fault [] = None
first_fault (c ∷ cs) = if c.0 then Some c.1 else first_fault cs

-- ---- shapes

abbrev pub wrong_length : List ℤ → ℕ → Bool
wrong_length xs n = not (length xs == n)

-- of the operands beside the descriptor s some have one element a segment, and some have its total as length
abbrev pub shape_in : List ℤ → List (List ℤ) → List (List ℤ) → Option DataFault
shape_in s each whole = first_fault
    ((list_any (λ x. wrong_length x (length s)) each, SegmentCount)
    ∷ (list_any (λ x. wrong_length x (total s)) whole, SegmentTotal) ∷ [])

-- between two descriptors of equally many segments, whose totals are the lengths of the other operands
abbrev pub shape_between : List ℤ → List ℤ → List (List ℤ) → List (List ℤ) → Option DataFault
shape_between s r of_s of_r = first_fault
    ((wrong_length s (length r), SegmentCount) ∷ (
      list_any (λ x. wrong_length x (total s)) of_s || list_any (λ x. wrong_length x (total r)) of_r,
      SegmentTotal,
    ) ∷ [])

-- all operands have the length of the first
abbrev pub elementwise_shape : List (List ℤ) → Option DataFault
elementwise_shape xs = first_fault ((list_any (λ x. wrong_length x (length (operand xs 0))) xs, LengthsDiffer) ∷ [])

abbrev pub segmented_shape : SegmentedOp → List (List ℤ) → Option DataFault
segmented_shape (Scan f) xs = shape_in (operand xs 1) [] (operand xs 0 ∷ [])
segmented_shape (Reduce f) xs = shape_in (operand xs 1) [] (operand xs 0 ∷ [])
segmented_shape (Distribute k) xs = shape_in (operand xs 1) (operand xs 0 ∷ []) []
segmented_shape Index xs = shape_in (operand xs 2) (operand xs 0 ∷ operand xs 1 ∷ []) []
segmented_shape (Permute k) xs = shape_in (operand xs 2) [] (operand xs 0 ∷ operand xs 1 ∷ [])
segmented_shape (BackPermute k) xs = shape_between (operand xs 2) (operand xs 3) (operand xs 0 ∷ []) (operand xs 1 ∷ [])
segmented_shape (DefaultPermute k) xs = shape_between (operand xs 3) (operand xs 4)
    (operand xs 0 ∷ operand xs 1 ∷ []) (operand xs 2 ∷ [])
segmented_shape (Extract k) xs = shape_in (operand xs 2) (operand xs 1 ∷ []) (operand xs 0 ∷ [])
segmented_shape (Replace k) xs = shape_in (operand xs 3) (operand xs 1 ∷ operand xs 2 ∷ []) (operand xs 0 ∷ [])
segmented_shape (Pack k) xs = shape_in (operand xs 2) [] (operand xs 0 ∷ operand xs 1 ∷ [])
segmented_shape MakeSegdes xs = None
segmented_shape Lengths xs = None

-- the fault of operands whose lengths don't fit one another
unfoldable pub shape : Op → List (List ℤ) → Option DataFault
shape (Const k) xs = None
shape (Elementwise op) xs = elementwise_shape xs
shape (Segmented op) xs = segmented_shape op xs
shape If xs = first_fault ((wrong_length (operand xs 0) 1, NotSingle) ∷ [])
shape (Move motion lower upper) xs = None
shape Call xs = None
shape Return xs = None

-- ---- lengths

abbrev pub segmented_need : SegmentedOp → List (List ℤ) → ℕ × ℕ
segmented_need (Scan f) xs = (length (operand xs 0), 0)
segmented_need (Reduce f) xs = (length (operand xs 1), 0)
segmented_need (Distribute k) xs = (total (operand xs 1), 0)
segmented_need Index xs = (total (operand xs 2), 0)
segmented_need (Permute k) xs = (length (operand xs 0), 0)
segmented_need (BackPermute k) xs = (total (operand xs 3), 0)
segmented_need (DefaultPermute k) xs = (total (operand xs 4), 0)
segmented_need (Extract k) xs = (length (operand xs 2), 0)
segmented_need (Replace k) xs = (length (operand xs 0), 0)
segmented_need (Pack k) xs = (count_by is_set (operand xs 1), length (operand xs 2))
segmented_need MakeSegdes xs = (length (operand xs 0), 0)
segmented_need Lengths xs = (length (operand xs 0), 0)

-- the words of the first and of the second result
unfoldable pub need : Op → List (List ℤ) → ℕ × ℕ
need (Const k) xs = (length (operand xs 0), 0)
need (Elementwise op) xs = (length (operand xs 0), 0)
need (Segmented op) xs = segmented_need op xs
need If xs = (0, 0)
need (Move motion lower upper) xs = (0, 0)
need Call xs = (0, 0)
need Return xs = (0, 0)

-- ---- value faults

abbrev pub elementwise_fault : ElementwiseOp → List (List ℤ) → Option DataFault
elementwise_fault (Arith op) xs = arithmetic_fault op (operand xs 1)
elementwise_fault _ xs = None

-- an index outside its segment comes before two equal indices, at whatever places they are
abbrev pub segmented_fault : SegmentedOp → List (List ℤ) → Option DataFault
segmented_fault (Permute k) xs = first_fault
    ((any_outside (sizes (operand xs 2)) (segments (operand xs 2) (operand xs 1)), BadIndex)
    ∷ (list_any has_twice (segments (operand xs 2) (operand xs 1)), IndexTwice) ∷ [])
segmented_fault (BackPermute k) xs =
    first_fault ((any_outside (sizes (operand xs 2)) (segments (operand xs 3) (operand xs 1)), BadIndex) ∷ [])
segmented_fault (DefaultPermute k) xs = first_fault
    ((any_outside (sizes (operand xs 4)) (segments (operand xs 3) (operand xs 1)), BadIndex)
    ∷ (list_any has_twice (segments (operand xs 3) (operand xs 1)), IndexTwice) ∷ [])
segmented_fault (Extract k) xs =
    first_fault ((list_any (λ (n, i). is_outside n i) (zip (sizes (operand xs 2)) (operand xs 1)), BadIndex) ∷ [])
segmented_fault (Replace k) xs =
    first_fault ((list_any (λ (n, i). is_outside n i) (zip (sizes (operand xs 3)) (operand xs 1)), BadIndex) ∷ [])
segmented_fault MakeSegdes xs = first_fault
    ((list_any (λ n. int_lt n (pos 0)) (operand xs 0) || nat_lt MOST_TOTAL (total (operand xs 0)), BadLength) ∷ [])
segmented_fault _ xs = None

-- the fault of operands of fitting shapes at whose values there is no result
unfoldable pub value_fault : Op → List (List ℤ) → Option DataFault
value_fault (Elementwise op) xs = elementwise_fault op xs
value_fault (Segmented op) xs = segmented_fault op xs
value_fault _ xs = None

-- ---- results

abbrev pub two_by_two : (ℤ → ℤ → ℤ) → List ℤ → List ℤ → List ℤ
two_by_two f xs ys = map (λ (x, y). f x y) (zip xs ys)

abbrev pub selection_of : List ℤ → List ℤ → List ℤ → List ℤ
selection_of bs xs ys = map (λ (b, p). if is_set b then p.0 else p.1) (zip bs (zip xs ys))

-- each element whose flag is T
abbrev pub flagged_elements : List ℤ → List ℤ → List ℤ
flagged_elements xs bs = map (λ (x, b). x) (filter (λ (x, b). is_set b) (zip xs bs))

abbrev pub elementwise_result : ElementwiseOp → List (List ℤ) → List ℤ
elementwise_result (Arith op) xs = two_by_two (arithmetic op) (operand xs 0) (operand xs 1)
elementwise_result (Compare op) xs = two_by_two (comparison op) (operand xs 0) (operand xs 1)
elementwise_result (Logic op k) xs = two_by_two (logic op) (operand xs 0) (operand xs 1)
elementwise_result (Not k) xs = map (negation k) (operand xs 0)
elementwise_result (Select k) xs = selection_of (operand xs 0) (operand xs 1) (operand xs 2)
elementwise_result IntToBool xs = map (λ x. flag (is_set x)) (operand xs 0)
elementwise_result BoolToInt xs = operand xs 0

abbrev pub segmented_result : SegmentedOp → List (List ℤ) → List ℤ
segmented_result (Scan f) xs = flat_map (folds_before f) (segments (operand xs 1) (operand xs 0))
segmented_result (Reduce f) xs = map (fold_of f) (segments (operand xs 1) (operand xs 0))
segmented_result (Distribute k) xs = flat_map (λ (n, x). replicate n x) (zip (sizes (operand xs 1)) (operand xs 0))
segmented_result Index xs = flat_map (λ (n, p). progression n p.0 p.1)
    (zip (sizes (operand xs 2)) (zip (operand xs 0) (operand xs 1)))
segmented_result (Permute k) xs = flat_map (λ (v, is). permutation_of v is)
    (zip (segments (operand xs 2) (operand xs 0)) (segments (operand xs 2) (operand xs 1)))
segmented_result (BackPermute k) xs = flat_map (λ (v, is). map (element v) is)
    (zip (segments (operand xs 2) (operand xs 0)) (segments (operand xs 3) (operand xs 1)))
segmented_result (DefaultPermute k) xs = flat_map (λ (v, p). scatter_of v p.0 p.1)
    (zip (segments (operand xs 3) (operand xs 0))
    (zip (segments (operand xs 3) (operand xs 1)) (segments (operand xs 4) (operand xs 2))))
segmented_result (Extract k) xs = map (λ (v, i). element v i) (zip (segments (operand xs 2) (operand xs 0))
    (operand xs 1))
segmented_result (Replace k) xs = flat_map (λ (v, p). slice_set v (unsigned_abs p.0) p.1)
    (zip (segments (operand xs 3) (operand xs 0)) (zip (operand xs 1) (operand xs 2)))
segmented_result (Pack k) xs = flagged_elements (operand xs 0) (operand xs 1)
segmented_result MakeSegdes xs = operand xs 0
segmented_result Lengths xs = operand xs 0

-- the first result, if there is no fault
unfoldable pub result_of : Op → List (List ℤ) → List ℤ
result_of (Const k) xs = operand xs 0
result_of (Elementwise op) xs = elementwise_result op xs
result_of (Segmented op) xs = segmented_result op xs
result_of _ xs = []

-- the second result, which PACK alone has: how many flags of each segment are T
abbrev pub segmented_second : SegmentedOp → List (List ℤ) → List ℤ
segmented_second (Pack k) xs = map (λ bs. pos (count_by is_set bs)) (segments (operand xs 2) (operand xs 1))
segmented_second _ xs = []

unfoldable pub second_result_of : Op → List (List ℤ) → List ℤ
second_result_of (Segmented op) xs = segmented_second op xs
second_result_of _ xs = []
