-- What the test of two lists of kinds says.
use Rattle.std.proofs.Common.{◌≡◌, arith, List, [], ◌∷◌}
use Rattle.std.specs.Bool.{Decides}
use Rattle.vcode_base.specs.declared.kind.Kind.{Kind}
use Rattle.vcode_base.specs.Kinds.{is_same_kind, are_same_kinds}

is_same_kind-Decides : (a b : Kind) → Decides (is_same_kind a b) (a ≡ b)
is_same_kind-Decides a b = grind arith

pub are_same_kinds-Decides : (xs ys : List Kind) → Decides (are_same_kinds xs ys) (xs ≡ ys)
are_same_kinds-Decides [] ys = grind arith
are_same_kinds-Decides (x ∷ xs) ys = grind (arith, is_same_kind-Decides, are_same_kinds-Decides xs)

pub ruleset same_kinds = (are_same_kinds-Decides)
