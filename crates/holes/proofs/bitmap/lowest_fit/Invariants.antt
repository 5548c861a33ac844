use Rattle.std.proofs.Common.{◌≡◌, ◌+◌, ◌^◌, ◌<◌, ◌≤◌}
use Rattle.holes.specs.FreeWords.{widest}
use Rattle.holes.specs.Tree.{words_of_bits, lowest_fit}
use Rattle.holes.proofs.bitmap.lowest_fit.Given as goal

abbrev pub invariant-loop-rest : goal.invariant-loop-rest
invariant-loop-rest l = record {
  small : l.rest + 1 < 2 ^ 64;
  fits : l.len ≤ widest (words_of_bits l.rest);
  lowest : lowest_fit l.len (words_of_bits l.bits) ≡ l.place + lowest_fit l.len (words_of_bits l.rest);
}

abbrev pub decreases-loop-rest : goal.decreases-loop-rest
decreases-loop-rest l = l.rest
