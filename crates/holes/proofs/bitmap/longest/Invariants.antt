use Rattle.std.proofs.Common.{◌≡◌, ◌+◌, ◌^◌, ◌<◌, max}
use Rattle.holes.specs.FreeWords.{widest}
use Rattle.holes.specs.Tree.{words_of_bits}
use Rattle.holes.proofs.bitmap.longest.Given as goal

abbrev pub invariant-loop-rest : goal.invariant-loop-rest
invariant-loop-rest l = record {
  small : l.rest + 1 < 2 ^ 64;
  widest : widest (words_of_bits l.bits) ≡ max l.longest (widest (words_of_bits l.rest));
}

abbrev pub decreases-loop-rest : goal.decreases-loop-rest
decreases-loop-rest l = l.rest
