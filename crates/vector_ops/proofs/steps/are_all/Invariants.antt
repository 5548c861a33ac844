use Rattle.std.proofs.Common.{◌≡◌, ◌<◌, ℕ, pos, true, get_or}
use Rattle.vector_ops.proofs.steps.are_all.Given as goal

abbrev pub invariant-loop-element : goal.invariant-loop-element
invariant-loop-element l = l.alike ≡ true → (k : ℕ) → k < l.element-index → get_or l.elements k (pos 0) ≡ l.fn.number
