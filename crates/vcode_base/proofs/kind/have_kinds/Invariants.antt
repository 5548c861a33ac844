use Rattle.std.proofs.Common.{◌↔◌, drop}
use Rattle.vcode_base.specs.Kinds.{HaveKinds}
use Rattle.vcode_base.specs.Operands.{contents}
use Rattle.vcode_base.proofs.kind.have_kinds.Given as goal

abbrev pub invariant-loop-i : goal.invariant-loop-i
invariant-loop-i l = HaveKinds (drop l.i l.kinds) (contents (drop l.i l.vectors)) ↔ HaveKinds l.kinds
    (contents l.vectors)
