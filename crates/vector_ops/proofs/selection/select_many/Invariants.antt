use Rattle.std.proofs.Common.{◌≡◌, map, take, if◌then◌else◌}
use Rattle.std.specs.List.{zip}
use Rattle.vcode_base.specs.Elements.{is_set}
use Rattle.vector_ops.proofs.selection.select_many.Given as goal

abbrev pub invariant-loop-i : goal.invariant-loop-i
invariant-loop-i l =
    take l.i l.out ≡ map (λ (b, p). if is_set b then p.0 else p.1) (take l.i (zip l.flags (zip l.chosen l.other)))
