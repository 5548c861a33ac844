use Rattle.std.proofs.Common.{pos, get_or, sym, arith, below_more, rules, FitsSigned, w64}
use Rattle.std.proofs.lemmas.Int.{to_z-of_z, ints}
use Rattle.segment_ops.proofs.PlaceLemmas.{moves, found, kept_more, settled, twice_found}
use Rattle.segment_ops.proofs.scatters.settle.Goals as goal

pub returns-then-out-index-clause-twice : goal.returns-then-out-index-clause-twice
returns-then-out-index-clause-twice c =
    sym (twice_found c.loop-place.invariant.settles c.loop-place-test.true c.requires.claimed
    (λ own. grind (arith, ints, to_z-of_z)))

pub loop-place-preserved : goal.loop-place-preserved
loop-place-preserved c =
    let s = c.loop-place.invariant.settles in
    let held = found s c.loop-place-test.true c.requires.claimed in
    let fits : FitsSigned w64 (get_or c.args.indices.now c.loop-place.place (pos 0)) = search rules in
    record {
      settles = record {
        own = below_more _ _ s.own (grind (arith, ints, to_z-of_z));
        kept = rw (to_z-of_z w64 (get_or c.args.indices.now c.loop-place.place (pos 0)) fits)
            (kept_more c.args.indices.now c.args.out.now c.loop-place.out c.loop-place.place _ s.kept);
      };
      moved = grind (arith, moves);
    }

pub returns-clause-twice : goal.returns-clause-twice
returns-clause-twice c = sym (settled c.loop-place.invariant.settles c.loop-place-test.false)
