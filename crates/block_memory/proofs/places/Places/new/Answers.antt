use Rattle.std.proofs.Common.{length, ap, true, arith}
use Rattle.std.proofs.lemmas.List.{length-replicate}
use Rattle.holes.specs.FreeWords.{Region}
use Rattle.block_memory.proofs.PlacesLemmas.{places-none}
use Rattle.block_memory.proofs.places.Places.new.Goals as goal

pub invariant_of-result : goal.invariant_of-result
invariant_of-result g c =
    let same = ap (λ (r : Region). length r.free) c.in_ok-holes.ensures in
    let most = ap (λ (r : Region). r.most) c.in_ok-holes.ensures in
    let long = length-replicate c.args.size true in
    places-none c.in_ok-holes.holes _ c.nothing_kept.ensures (omega (arith, same, most, long))
