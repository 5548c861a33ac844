-- What a value of a kind is, and the kinds of the operands and the results of each instruction.
use Rattle.std.specs.Prelude.{ℤ, pos, ◌≡◌, ◌≤◌, ◌≤ℤ◌, ◌⊎◌, Bool as Truth, true, false, ◌&&◌, List, [], ◌∷◌}
use Rattle.std.specs.List.{All}
use Rattle.vcode_base.specs.Segments.{total}
use Rattle.vcode_base.specs.declared.limits.TheConstants.{MOST_TOTAL}
use Rattle.vcode_base.specs.declared.kind.Kind.{Kind}
use Rattle.vcode_base.specs.declared.kind.Kind.TheVariants.{Int, Bool, Segdes}
use Rattle.vcode_base.specs.declared.kind.Scalar.{Scalar}
use Rattle.vcode_base.specs.declared.kind.Scalar.TheVariants.{Int as Numbers, Bool as Flags}
use Rattle.vcode_base.specs.declared.op.Fold.{Fold}
use Rattle.vcode_base.specs.declared.op.Fold.TheVariants.{Sum, Product, Max, Min, Logic as LogicFold}
use Rattle.vcode_base.specs.declared.op.Elementwise.{Elementwise as ElementwiseOp}
use Rattle.vcode_base.specs.declared.op.Elementwise.TheVariants.{Arith, Compare, Logic, Not, Select}
use Rattle.vcode_base.specs.declared.op.Elementwise.TheVariants.{IntToBool, BoolToInt}
use Rattle.vcode_base.specs.declared.op.Segmented.{Segmented as SegmentedOp}
use Rattle.vcode_base.specs.declared.op.Segmented.TheVariants.{Scan, Reduce, Distribute, Index, Permute}
use Rattle.vcode_base.specs.declared.op.Segmented.TheVariants.{BackPermute, DefaultPermute, Extract, Replace}
use Rattle.vcode_base.specs.declared.op.Segmented.TheVariants.{Pack, MakeSegdes, Lengths}
use Rattle.vcode_base.specs.declared.op.Op.{Op}
use Rattle.vcode_base.specs.declared.op.Op.TheVariants.{Const, Elementwise, Segmented, If, Move, Call, Return}

-- T is 1 and F is 0
abbrev pub IsFlag : ℤ → Type 0
IsFlag x = (x ≡ pos 0) ⊎ (x ≡ pos 1)

-- none is negative
abbrev pub AreLengths : List ℤ → Type 0
AreLengths s = All (λ n. pos 0 ≤ℤ n) s

-- the words of a value of the kind; those of a number are in its 64 bits by their type
abbrev pub HasKind : Kind → List ℤ → Type 0
HasKind Int xs = Unit {0}
HasKind Bool xs = All IsFlag xs
HasKind Segdes xs = AreLengths xs × (total xs ≤ MOST_TOTAL)

-- each value has the kind at its place
abbrev pub HaveKinds : List Kind → List (List ℤ) → Type 0
HaveKinds [] [] = Unit {0}
HaveKinds (k ∷ ks) (x ∷ xs) = HasKind k x × HaveKinds ks xs
HaveKinds [] (x ∷ xs) = ⊥
HaveKinds (k ∷ ks) [] = ⊥

abbrev pub kind_of : Scalar → Kind
kind_of Numbers = Int
kind_of Flags = Bool

abbrev pub fold_kind : Fold → Kind
fold_kind Sum = Int
fold_kind Product = Int
fold_kind Max = Int
fold_kind Min = Int
fold_kind (LogicFold op k) = kind_of k

abbrev pub elementwise_operands : ElementwiseOp → List Kind
elementwise_operands (Arith op) = Int ∷ Int ∷ []
elementwise_operands (Compare op) = Int ∷ Int ∷ []
elementwise_operands (Logic op k) = kind_of k ∷ kind_of k ∷ []
elementwise_operands (Not k) = kind_of k ∷ []
elementwise_operands (Select k) = Bool ∷ kind_of k ∷ kind_of k ∷ []
elementwise_operands IntToBool = Int ∷ []
elementwise_operands BoolToInt = Bool ∷ []

abbrev pub elementwise_results : ElementwiseOp → List Kind
elementwise_results (Arith op) = Int ∷ []
elementwise_results (Compare op) = Bool ∷ []
elementwise_results (Logic op k) = kind_of k ∷ []
elementwise_results (Not k) = kind_of k ∷ []
elementwise_results (Select k) = kind_of k ∷ []
elementwise_results IntToBool = Bool ∷ []
elementwise_results BoolToInt = Int ∷ []

abbrev pub segmented_operands : SegmentedOp → List Kind
segmented_operands (Scan f) = fold_kind f ∷ Segdes ∷ []
segmented_operands (Reduce f) = fold_kind f ∷ Segdes ∷ []
segmented_operands (Distribute k) = kind_of k ∷ Segdes ∷ []
segmented_operands Index = Int ∷ Int ∷ Segdes ∷ []
segmented_operands (Permute k) = kind_of k ∷ Int ∷ Segdes ∷ []
segmented_operands (BackPermute k) = kind_of k ∷ Int ∷ Segdes ∷ Segdes ∷ []
segmented_operands (DefaultPermute k) = kind_of k ∷ Int ∷ kind_of k ∷ Segdes ∷ Segdes ∷ []
segmented_operands (Extract k) = kind_of k ∷ Int ∷ Segdes ∷ []
segmented_operands (Replace k) = kind_of k ∷ Int ∷ kind_of k ∷ Segdes ∷ []
segmented_operands (Pack k) = kind_of k ∷ Bool ∷ Segdes ∷ []
segmented_operands MakeSegdes = Int ∷ []
segmented_operands Lengths = Segdes ∷ []

abbrev pub segmented_results : SegmentedOp → List Kind
segmented_results (Scan f) = fold_kind f ∷ []
segmented_results (Reduce f) = fold_kind f ∷ []
segmented_results (Distribute k) = kind_of k ∷ []
segmented_results Index = Int ∷ []
segmented_results (Permute k) = kind_of k ∷ []
segmented_results (BackPermute k) = kind_of k ∷ []
segmented_results (DefaultPermute k) = kind_of k ∷ []
segmented_results (Extract k) = kind_of k ∷ []
segmented_results (Replace k) = kind_of k ∷ []
segmented_results (Pack k) = kind_of k ∷ Segdes ∷ []
segmented_results MakeSegdes = Segdes ∷ []
segmented_results Lengths = Int ∷ []

-- the operands whose kinds are the same at every use of the instruction, from the bottom up;
-- those of a motion of the stack are of any kinds, and those of a call are its signature's
abbrev pub operand_kinds : Op → List Kind
operand_kinds (Const k) = []
operand_kinds (Elementwise op) = elementwise_operands op
operand_kinds (Segmented op) = segmented_operands op
operand_kinds If = Bool ∷ []
operand_kinds (Move motion lower upper) = []
operand_kinds Call = []
operand_kinds Return = []

abbrev pub result_kinds : Op → List Kind
result_kinds (Const k) = kind_of k ∷ []
result_kinds (Elementwise op) = elementwise_results op
result_kinds (Segmented op) = segmented_results op
result_kinds If = []
result_kinds (Move motion lower upper) = []
result_kinds Call = []
result_kinds Return = []

-- what a result is computed from: the operands, or the list of a CONST
abbrev pub source_kinds : Op → List Kind
source_kinds (Const k) = kind_of k ∷ []
source_kinds op = operand_kinds op

abbrev pub is_same_kind : Kind → Kind → Truth
is_same_kind Int Int = true
is_same_kind Bool Bool = true
is_same_kind Segdes Segdes = true
is_same_kind _ _ = false

-- as many kinds, and the same at each place
abbrev pub are_same_kinds : List Kind → List Kind → Truth
are_same_kinds [] [] = true
are_same_kinds [] (k ∷ ks) = false
are_same_kinds (k ∷ ks) [] = false
are_same_kinds (k ∷ ks) (l ∷ ls) = is_same_kind k l && are_same_kinds ks ls
