use Rattle.std.proofs.Common.{◌≡◌, ◌≤◌, ◌*◌, take, nat_lt, w64, false}
use Rattle.std.specs.List.{list_any}
use Rattle.std.specs.Int.{cast_unsigned}
use Rattle.vcode_base.specs.Segments.{total}
use Rattle.vcode_base.specs.declared.limits.TheConstants.{MOST_TOTAL}
use Rattle.segment_ops.proofs.descriptors.copy_few_lengths.Given as goal

abbrev pub invariant-loop-i : goal.invariant-loop-i
invariant-loop-i l = record {
  any_large : l.any_large ≡ list_any (λ n. nat_lt MOST_TOTAL (cast_unsigned w64 n)) (take l.i l.lengths);
  copied : take l.i l.out ≡ take l.i l.lengths;
  sum : l.any_large ≡ false → (l.sum ≡ total (take l.i l.lengths)) × (total (take l.i l.lengths) ≤ l.i * MOST_TOTAL);
}
