-- The worked examples of the instructions, computed.
use Rattle.std.proofs.Common.{◌≡◌, refl, pos, negsuc, [], ◌∷◌, Some}
use Rattle.std.specs.Int.{int_wrap}
use Rattle.vcode_base.specs.Meaning.{shape, value_fault, result_of, second_result_of}
use Rattle.vcode_base.specs.declared.op.Op.TheVariants.{Elementwise, Segmented}
use Rattle.vcode_base.specs.declared.op.Elementwise.TheVariants.{Arith}
use Rattle.vcode_base.specs.declared.op.Arith.TheVariants.{Add, Divide, Remainder, ShiftLeft, ShiftRight}
use Rattle.vcode_base.specs.declared.op.Logic.TheVariants.{And}
use Rattle.vcode_base.specs.declared.kind.Scalar.TheVariants.{Int, Bool}
use Rattle.vcode_base.specs.declared.op.Fold.TheVariants.{Sum, Product, Logic as LogicFold}
use Rattle.vcode_base.specs.declared.op.Segmented.TheVariants.{Scan, Reduce, Distribute, Index, Permute}
use Rattle.vcode_base.specs.declared.op.Segmented.TheVariants.{BackPermute, DefaultPermute, Extract, Replace}
use Rattle.vcode_base.specs.declared.op.Segmented.TheVariants.{Pack, MakeSegdes}
use Rattle.vcode_base.specs.declared.fault.DataFault.TheVariants.{SegmentCount, BadIndex, BadLength}
use Rattle.vcode_base.specs.declared.fault.DataFault.TheVariants.{IndexTwice, ZeroDivisor}

quotient : result_of (Elementwise (Arith Divide)) ((negsuc 6 ∷ []) ∷ (pos 2 ∷ []) ∷ []) ≡ negsuc 2 ∷ []
unfolding result_of int_wrap
quotient = refl

remainder : result_of (Elementwise (Arith Remainder)) ((negsuc 6 ∷ []) ∷ (pos 2 ∷ []) ∷ []) ≡ negsuc 0 ∷ []
unfolding result_of
remainder = refl

shift_right : result_of (Elementwise (Arith ShiftRight))
    ((negsuc 4 ∷ pos 5 ∷ negsuc 0 ∷ []) ∷ (pos 1 ∷ pos 1 ∷ pos 63 ∷ []) ∷ []) ≡ negsuc 2 ∷ pos 2 ∷ negsuc 0 ∷ []
unfolding result_of
shift_right = refl

shift_left : result_of (Elementwise (Arith ShiftLeft)) ((pos 1 ∷ []) ∷
    (pos 63 ∷ []) ∷ []) ≡ negsuc 9223372036854775807 ∷ []
unfolding result_of int_wrap
shift_left = refl

wraps : result_of (Elementwise (Arith Add)) ((pos 9223372036854775807 ∷ []) ∷ (pos 1 ∷ []) ∷ [])
    ≡ negsuc 9223372036854775807 ∷ []
unfolding result_of int_wrap
wraps = refl

least_by_minus_one : result_of (Elementwise (Arith Divide))
    ((negsuc 9223372036854775807 ∷ []) ∷ (negsuc 0 ∷ []) ∷ []) ≡ negsuc 9223372036854775807 ∷ []
unfolding result_of int_wrap
least_by_minus_one = refl

zero_divisor : value_fault (Elementwise (Arith Divide)) ((negsuc 6 ∷ []) ∷ (pos 0 ∷ []) ∷ []) ≡ Some ZeroDivisor
unfolding value_fault
zero_divisor = refl

products_before : result_of (Segmented (Scan Product)) ((pos 2 ∷ pos 3 ∷ pos 4 ∷ []) ∷ (pos 3 ∷ []) ∷ []) ≡ pos 1
    ∷ pos 2 ∷ pos 6 ∷ []
unfolding result_of int_wrap
products_before = refl

all_true : result_of (Segmented (Reduce (LogicFold And Bool))) ((pos 1 ∷ pos 0 ∷ []) ∷ (pos 0 ∷ pos 2 ∷ []) ∷ [])
    ≡ pos 1 ∷ pos 0 ∷ []
unfolding result_of
all_true = refl

no_segment : result_of (Segmented (Reduce Sum)) ([] ∷ [] ∷ []) ≡ []
unfolding result_of
no_segment = refl

distributed : result_of (Segmented (Distribute Int))
    ((pos 7 ∷ pos 8 ∷ pos 9 ∷ []) ∷ (pos 2 ∷ pos 0 ∷ pos 1 ∷ []) ∷ []) ≡ pos 7 ∷ pos 7 ∷ pos 9 ∷ []
unfolding result_of
distributed = refl

index : result_of (Segmented Index) ((pos 0 ∷ pos 10 ∷ []) ∷ (pos 1 ∷ negsuc 1 ∷ []) ∷ (pos 3 ∷ pos 2 ∷ []) ∷ [])
    ≡ pos 0 ∷ pos 1 ∷ pos 2 ∷ pos 10 ∷ pos 8 ∷ []
unfolding result_of int_wrap
index = refl

back_permuted : result_of (Segmented (BackPermute Int))
    ((pos 7 ∷ pos 8 ∷ pos 9 ∷ []) ∷ (pos 2 ∷ pos 2 ∷ []) ∷ (pos 3 ∷ []) ∷ (pos 2 ∷ []) ∷ []) ≡ pos 9 ∷ pos 9 ∷ []
unfolding result_of
back_permuted = refl

default_permuted : result_of (Segmented (DefaultPermute Int))
    ((pos 7 ∷ pos 8 ∷ []) ∷ (pos 2 ∷ pos 0 ∷ []) ∷ (pos 1 ∷ pos 1 ∷ pos 1 ∷ []) ∷ (pos 2 ∷ []) ∷ (pos 3 ∷ []) ∷ [])
    ≡ pos 8 ∷ pos 1 ∷ pos 7 ∷ []
unfolding result_of
default_permuted = refl

extracted : result_of (Segmented (Extract Int))
    ((pos 1 ∷ pos 2 ∷ pos 3 ∷ []) ∷ (pos 1 ∷ pos 0 ∷ []) ∷ (pos 2 ∷ pos 1 ∷ []) ∷ []) ≡ pos 2 ∷ pos 3 ∷ []
unfolding result_of
extracted = refl

replaced : result_of (Segmented (Replace Int))
    ((pos 1 ∷ pos 2 ∷ pos 3 ∷ []) ∷ (pos 0 ∷ pos 0 ∷ []) ∷ (pos 9 ∷ pos 8 ∷ []) ∷ (pos 2 ∷ pos 1 ∷ []) ∷ []) ≡ pos 9
    ∷ pos 2 ∷ pos 8 ∷ []
unfolding result_of
replaced = refl

other_segments : shape (Segmented (BackPermute Int))
    ((pos 7 ∷ []) ∷ (pos 0 ∷ []) ∷ (pos 1 ∷ []) ∷ (pos 1 ∷ pos 0 ∷ []) ∷ []) ≡ Some SegmentCount
unfolding shape
other_segments = refl

of_empty_segment : value_fault (Segmented (Extract Int))
    ((pos 7 ∷ []) ∷ (pos 0 ∷ pos 0 ∷ []) ∷ (pos 1 ∷ pos 0 ∷ []) ∷ []) ≡ Some BadIndex
unfolding value_fault
of_empty_segment = refl

outside_before_twice : value_fault (Segmented (Permute Int))
    ((pos 1 ∷ pos 2 ∷ pos 3 ∷ []) ∷ (pos 0 ∷ pos 0 ∷ pos 5 ∷ []) ∷ (pos 3 ∷ []) ∷ []) ≡ Some BadIndex
unfolding value_fault
outside_before_twice = refl

twice : value_fault (Segmented (Permute Int))
    ((pos 1 ∷ pos 2 ∷ pos 3 ∷ []) ∷ (pos 0 ∷ pos 0 ∷ pos 1 ∷ []) ∷ (pos 3 ∷ []) ∷ []) ≡ Some IndexTwice
unfolding value_fault
twice = refl

permuted : result_of (Segmented (Permute Int))
    ((pos 1 ∷ pos 2 ∷ pos 3 ∷ []) ∷ (pos 2 ∷ pos 0 ∷ pos 1 ∷ []) ∷ (pos 3 ∷ []) ∷ []) ≡ pos 2 ∷ pos 3 ∷ pos 1 ∷ []
unfolding result_of
permuted = refl

packed : second_result_of (Segmented (Pack Int))
    ((pos 1 ∷ pos 2 ∷ pos 3 ∷ []) ∷ (pos 1 ∷ pos 0 ∷ pos 1 ∷ []) ∷ (pos 2 ∷ pos 1 ∷ []) ∷ []) ≡ pos 1 ∷ pos 1 ∷ []
unfolding second_result_of
packed = refl

too_long : value_fault (Segmented MakeSegdes) ((pos 9223372036854775807 ∷ pos 9223372036854775807 ∷ pos 2 ∷ []) ∷ [])
    ≡ Some BadLength
unfolding value_fault
too_long = refl
