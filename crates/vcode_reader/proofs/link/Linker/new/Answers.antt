use Rattle.std.proofs.lemmas.Grind.{common_steps}
use Rattle.std.proofs.Common.{◌≡◌, ◌+◌, ◌-◌, sym, subst, arith}
use Rattle.std.proofs.lemmas.Iterator.Adapters.{position_from-zero}
use Rattle.vcode_reader.proofs.Callees.{Finds, finds_more}
use Rattle.vcode_reader.proofs.link.Linker.new.Goals as goal

pub loop-place-preserved : goal.loop-place-preserved
loop-place-preserved g c =
    let next : c.loop-place.place ≡ (c.loop-place.place - 1) + 1 = omega arith in
    record {
      within = omega arith;
      found = finds_more c.args.functions.now
          (c.loop-place.place - 1)
          c.index-functions-place.result c.name.result.now c.loop-place.places c.insert.new.self
          (omega arith) (sym c.index-functions-place.is) c.name.ensures c.in_ok-insert.ensures.updates
          (subst (λ z. Finds c.args.functions.now z c.loop-place.places) next c.loop-place.invariant.found);
    }

pub invariant_of-result : goal.invariant_of-result
invariant_of-result g c = grind (arith, common_steps, position_from-zero)
