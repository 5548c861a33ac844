use Rattle.std.proofs.Common.{◌≡◌, ◌-◌, ◌^◌, pos, take, min}
use Rattle.std.specs.List.{list_any}
use Rattle.std.specs.Prelude.{int_lt}
use Rattle.vcode_base.specs.Segments.{total}
use Rattle.vcode_base.proofs.kind.is_bad_descriptor.Given as goal

abbrev pub invariant-loop-size : goal.invariant-loop-size
invariant-loop-size l = record {
  any_negative : l.any_negative ≡ list_any (λ n. int_lt n (pos 0)) (take l.size-index l.lengths);
  sum : l.sum ≡ min (total (take l.size-index l.lengths)) (2 ^ 64 - 1);
}
