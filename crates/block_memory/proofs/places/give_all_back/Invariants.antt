use Rattle.std.proofs.Common.{◌≡◌, ℕ, ◌<◌, length, None}
use Rattle.block_memory.specs.Table.{value_at}
use Rattle.block_memory.specs.Places.{ArePlaces, slots_of, with_kept}
use Rattle.block_memory.proofs.places.give_all_back.Given as goal

-- the ranges of the first indices are in the holes
abbrev pub invariant-loop-index : goal.invariant-loop-index
invariant-loop-index g l = record {
  places : ArePlaces l.holes (slots_of l.kept);
  same_words : with_kept l.holes l.kept ≡ with_kept l.fn.holes l.fn.kept;
  long : length l.kept ≡ length l.fn.kept;
  emptied : (n : ℕ) → n < l.index → value_at l.kept n ≡ None;
}
