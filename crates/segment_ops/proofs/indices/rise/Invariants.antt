use Rattle.std.proofs.Common.{◌≡◌, ◌<◌, ◌≤ℤ◌, ◌<ℤ◌, ℕ, true, pos, negsuc, get_or}
use Rattle.segment_ops.proofs.indices.rise.Given as goal

abbrev pub invariant-loop-index : goal.invariant-loop-index
invariant-loop-index l = l.rising ≡ true → (negsuc 0 ≤ℤ l.last)
    × ((j : ℕ) → j < l.index-index → (pos 0 ≤ℤ get_or l.indices j (pos 0)) × (get_or l.indices j (pos 0) ≤ℤ l.last))
    × ((j m : ℕ) → j < m → m < l.index-index → get_or l.indices j (pos 0) <ℤ get_or l.indices m (pos 0))
