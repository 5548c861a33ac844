-- For every instruction: if it has no fault, its results have the needed lengths.
use Rattle.std.proofs.Common.{◌≡◌, ◌<◌, ℕ, ℤ, List, [], length, None, refl, arith}
use Rattle.std.proofs.lemmas.List.{length-map}
use Rattle.std.proofs.lemmas.List.Folds.{list_any_at}
use Rattle.std.proofs.lemmas.Slice.Zip.{length-zip}
use Rattle.vcode_base.specs.Kinds.{elementwise_operands}
use Rattle.vcode_base.specs.Laws.{ResultsHaveNeededLengths}
use Rattle.vcode_base.specs.Meaning.{operand, wrong_length, shape, need, result_of, second_result_of}
use Rattle.vcode_base.specs.Meaning.{elementwise_shape, elementwise_result, segmented_shape, segmented_need}
use Rattle.vcode_base.specs.Meaning.{segmented_result, segmented_second}
use Rattle.vcode_base.specs.declared.op.Elementwise.{Elementwise as ElementwiseOp}
use Rattle.vcode_base.specs.declared.op.Segmented.{Segmented as SegmentedOp}
use Rattle.vcode_base.specs.declared.op.Segmented.TheVariants.{Scan, Reduce, Distribute, Index, Permute}
use Rattle.vcode_base.specs.declared.op.Segmented.TheVariants.{BackPermute, DefaultPermute, Extract, Replace}
use Rattle.vcode_base.specs.declared.op.Segmented.TheVariants.{Pack, MakeSegdes, Lengths}
use Rattle.vcode_base.proofs.Lengths.{segments_many, scan_long, distributed_long, progressions_long, permuted_long}
use Rattle.vcode_base.proofs.Lengths.{back_permuted_long, default_permuted_long, replaced_long, packed_long}

-- an operand of an elementwise instruction without a shape fault is as long as the first
as_long : (xs : List (List ℤ)) (k : ℕ) → elementwise_shape xs ≡ None → k < length xs
    → length (operand xs k) ≡ length (operand xs 0)
as_long xs k h l = grind (arith, list_any_at (λ x. wrong_length x (length (operand xs 0))) xs k [])

elementwise_long : (op : ElementwiseOp) (xs : List (List ℤ)) → length xs ≡ length (elementwise_operands op)
    → elementwise_shape xs ≡ None → length (elementwise_result op xs) ≡ length (operand xs 0)
elementwise_long op xs many h = grind (arith, length-map, length-zip, as_long xs 1 h, as_long xs 2 h)

segmented_long : (op : SegmentedOp) (xs : List (List ℤ)) → segmented_shape op xs ≡ None
    → segmented_need op xs ≡ (length (segmented_result op xs), length (segmented_second op xs))
segmented_long (Scan f) xs h = grind (arith, scan_long)
segmented_long (Reduce f) xs h = grind (arith, length-map, segments_many)
segmented_long (Distribute k) xs h = grind (arith, distributed_long)
segmented_long Index xs h = grind (arith, progressions_long)
segmented_long (Permute k) xs h = grind (arith, permuted_long)
segmented_long (BackPermute k) xs h = grind (arith, back_permuted_long)
segmented_long (DefaultPermute k) xs h = grind (arith, default_permuted_long)
segmented_long (Extract k) xs h = grind (arith, length-map, length-zip, segments_many)
segmented_long (Replace k) xs h = grind (arith, replaced_long)
segmented_long (Pack k) xs h = grind (arith, packed_long, length-map, segments_many)
segmented_long MakeSegdes xs h = refl
segmented_long Lengths xs h = refl

pub results_have_needed_lengths : ResultsHaveNeededLengths
unfolding shape need result_of second_result_of
results_have_needed_lengths op xs many s v = grind (arith, elementwise_long, segmented_long)
