-- What one element of a result is, by the elements at its place.
use Rattle.std.specs.Prelude.{ℕ, ℤ, pos, negsuc, ◌+ℤ◌, ◌-ℤ◌, ◌*ℤ◌, ◌-◌, ◌^◌, Bool, not, ◌||◌, if◌then◌else◌}
use Rattle.std.specs.Prelude.{List, int_lt, int_le, int_div, int_rem, unsigned_abs, Option, Some, None, fold}
use Rattle.std.specs.Int.{w64, int_wrap, int_bit_and, int_bit_or, int_bit_xor, int_bit_not, int_div_euclid}
use Rattle.std.specs.Int.{int_min, int_max}
use Rattle.std.specs.List.{list_any}
use Rattle.std.specs.Ordering.{int_eq}
use Rattle.vcode_base.specs.declared.op.Arith.{Arith}
use Rattle.vcode_base.specs.declared.op.Arith.TheVariants.{Add, Subtract, Multiply, Divide, Remainder}
use Rattle.vcode_base.specs.declared.op.Arith.TheVariants.{ShiftLeft, ShiftRight}
use Rattle.vcode_base.specs.declared.op.Comparison.{Comparison}
use Rattle.vcode_base.specs.declared.op.Comparison.TheVariants.{Less, LessOrEqual, Greater, GreaterOrEqual}
use Rattle.vcode_base.specs.declared.op.Comparison.TheVariants.{Equal, NotEqual}
use Rattle.vcode_base.specs.declared.op.Logic.{Logic}
use Rattle.vcode_base.specs.declared.op.Logic.TheVariants.{And, Or, Xor}
use Rattle.vcode_base.specs.declared.op.Fold.{Fold}
use Rattle.vcode_base.specs.declared.op.Fold.TheVariants.{Sum, Product, Max, Min, Logic as LogicFold}
use Rattle.vcode_base.specs.declared.kind.Scalar.{Scalar}
use Rattle.vcode_base.specs.declared.kind.Scalar.TheVariants.{Int as Numbers, Bool as Flags}
use Rattle.vcode_base.specs.declared.fault.DataFault.{DataFault}
use Rattle.vcode_base.specs.declared.fault.DataFault.TheVariants.{ZeroDivisor, BadShift}

-- modulo 2^64, as a signed number
abbrev pub wrap : ℤ → ℤ
wrap z = int_wrap w64 z

-- T is 1 and F is 0
abbrev pub flag : Bool → ℤ
flag b = if b then pos 1 else pos 0

abbrev pub is_zero : ℤ → Bool
is_zero z = int_eq z (pos 0)

abbrev pub is_set : ℤ → Bool
is_set z = not (is_zero z)

-- i is none of the numbers 0 .. n - 1
abbrev pub is_outside : ℕ → ℤ → Bool
is_outside n i = int_lt i (pos 0) || int_le (pos n) i

-- a quotient goes towards zero, and a shift to the right rounds down
abbrev pub arithmetic : Arith → ℤ → ℤ → ℤ
arithmetic Add a b = wrap (a +ℤ b)
arithmetic Subtract a b = wrap (a -ℤ b)
arithmetic Multiply a b = wrap (a *ℤ b)
arithmetic Divide a b = wrap (int_div a b)
arithmetic Remainder a b = int_rem a b
arithmetic ShiftLeft a b = wrap (a *ℤ pos (2 ^ unsigned_abs b))
arithmetic ShiftRight a b = int_div_euclid a (pos (2 ^ unsigned_abs b))

-- the right operands at which there is no result
abbrev pub arithmetic_fault : Arith → List ℤ → Option DataFault
arithmetic_fault Divide bs = if list_any is_zero bs then Some ZeroDivisor else None
arithmetic_fault Remainder bs = if list_any is_zero bs then Some ZeroDivisor else None
arithmetic_fault ShiftLeft bs = if list_any (is_outside 64) bs then Some BadShift else None
arithmetic_fault ShiftRight bs = if list_any (is_outside 64) bs then Some BadShift else None
arithmetic_fault _ bs = None

abbrev pub comparison : Comparison → ℤ → ℤ → ℤ
comparison Less a b = flag (int_lt a b)
comparison LessOrEqual a b = flag (int_le a b)
comparison Greater a b = flag (int_lt b a)
comparison GreaterOrEqual a b = flag (int_le b a)
comparison Equal a b = flag (int_eq a b)
comparison NotEqual a b = flag (not (int_eq a b))

-- bit by bit, which on the flags 0 and 1 is the truth value
abbrev pub logic : Logic → ℤ → ℤ → ℤ
logic And a b = int_bit_and w64 a b
logic Or a b = int_bit_or w64 a b
logic Xor a b = int_bit_xor w64 a b

abbrev pub negation : Scalar → ℤ → ℤ
negation Numbers a = int_bit_not w64 a
negation Flags a = flag (not (is_set a))

-- one step of a scan or a reduction
abbrev pub fold_step : Fold → ℤ → ℤ → ℤ
fold_step Sum a x = wrap (a +ℤ x)
fold_step Product a x = wrap (a *ℤ x)
fold_step Max a x = int_max a x
fold_step Min a x = int_min a x
fold_step (LogicFold op elements) a x = logic op a x

abbrev pub identity : Fold → ℤ
identity Sum = pos 0
identity Product = pos 1
identity Max = negsuc (2 ^ 63 - 1)
identity Min = pos (2 ^ 63 - 1)
identity (LogicFold And Numbers) = negsuc 0
identity (LogicFold And Flags) = pos 1
identity (LogicFold _ _) = pos 0

-- the elements taken together, from the identity
abbrev pub fold_of : Fold → List ℤ → ℤ
fold_of f xs = fold (fold_step f) (identity f) xs
