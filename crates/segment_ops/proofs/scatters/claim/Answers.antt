use Rattle.std.proofs.Common.{◌≡◌, ◌<◌, pos, get_or, length, arith, rules, FitsSigned, w64, below_more}
use Rattle.std.proofs.lemmas.Int.{to_z-of_z, to_z_pos, ints}
use Rattle.segment_ops.specs.Indices.{place_of}
use Rattle.segment_ops.proofs.PlaceLemmas.{claim_more, kept_all, kept_more, none_outside}
use Rattle.segment_ops.proofs.scatters.claim.Goals as goal

pub loop-place-preserved : goal.loop-place-preserved
loop-place-preserved c =
    let indices = c.args.indices.now in
    let k = c.loop-place.place in
    let fits : FitsSigned w64 (get_or indices k (pos 0)) = search rules in
    let room : place_of indices k < length c.loop-place.out = grind (arith, ints, to_z-of_z) in
    rw (to_z-of_z w64 (get_or indices k (pos 0)) fits, to_z_pos w64 k (omega arith))
    record {
      inside = below_more _ _ c.loop-place.invariant.inside (grind (arith, ints, to_z-of_z));
      claimed = claim_more indices c.loop-place.out k room c.loop-place.invariant.claimed;
      beside = kept_more indices c.args.out.now c.loop-place.out k (pos k) c.loop-place.invariant.beside;
    }

pub returns : goal.returns
returns c =
    let all : c.loop-place.place ≡ length c.args.indices.now = omega arith in
    let done = rw all at c.loop-place.invariant in
    (none_outside _ _ done.inside, done.claimed, kept_all _ _ _ done.beside)
