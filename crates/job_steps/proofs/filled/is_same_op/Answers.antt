-- When the derived `==` of two instructions without their lists is true: if they are one.
use Rattle.std.proofs.lemmas.Bool.Decides.{Decides-at}
use Rattle.std.proofs.Common.{arith, ◌≡◌, Bool, true, false, ◌&&◌}
use Rattle.std.specs.Bool.{Decides}
use Rattle.std.specs.Prelude.{nat_eq}
use denote.Enum.Bare.{sameb}
use denote.Enum.Compared.{Each, by}
use Rattle.vcode_base.specs.contracts.kind.Scalar as scalar
use Rattle.vcode_base.specs.contracts.op.StackMove as motion
use Rattle.vcode_base.specs.contracts.op.Op as ops
use Rattle.vcode_reader.proofs.Enums.{same_elementwise, same_segmented}
use Rattle.job_steps.proofs.filled.is_same_op.Goals as goal

abbrev op_each : Each Bool ops.the_parts
op_each = (
  λ x y. sameb scalar.the_type x.0 y.0,
  (
    λ x y. same_elementwise x.0 y.0,
    (
      λ x y. same_segmented x.0 y.0,
      (
        λ _ _. true,
        (
          λ x y. sameb motion.the_type x.0 y.0 && (nat_eq x.1.0 y.1.0 && nat_eq x.1.1.0 y.1.1.0),
          (λ _ _. true, (λ _ _. true, tt)),
        ),
      ),
    ),
  ),
)

abbrev same_op : (ops.the_type).D → (ops.the_type).D → Bool
same_op a b = by false false ops.the_parts op_each (ops.as_values a) (ops.as_values b)

op_exact : (a b : (ops.the_type).D) → Decides (same_op a b) (a ≡ b)
op_exact = grind arith

pub returns : goal.returns
returns c = Decides-at _ _ c.eq.ensures (op_exact c.args.left c.args.right)
