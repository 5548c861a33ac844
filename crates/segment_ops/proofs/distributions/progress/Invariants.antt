use Rattle.std.proofs.Common.{◌≡◌, ◌<◌, ◌+ℤ◌, ◌*ℤ◌, ℕ, pos, get_or}
use Rattle.vcode_base.specs.Elements.{wrap}
use Rattle.segment_ops.proofs.distributions.progress.Given as goal

abbrev pub invariant-loop-element : goal.invariant-loop-element
invariant-loop-element l = record {
  next : l.next ≡ wrap (l.fn.first +ℤ pos l.element-index *ℤ l.fn.stride);
  written : (k : ℕ) → k < l.element-index → get_or l.out k (pos 0) ≡ wrap (l.fn.first +ℤ pos k *ℤ l.fn.stride);
}
