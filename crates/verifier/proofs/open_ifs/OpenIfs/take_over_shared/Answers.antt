use Rattle.std.proofs.lemmas.Result.{on_ok_weaker}
use Rattle.verifier.proofs.Keeping.{first_below, first_shares, first_takes}
use Rattle.verifier.proofs.open_ifs.OpenIfs.take_over_shared.Goals as goal

pub take_over_above-taken-requires : goal.take_over_above-taken-requires
take_over_above-taken-requires g c =
    first_shares c.args.kinds.now c.self.inside.ifs.items c.pop.new.self.items c.in-Some.innermost
    c.in-Some.ensures.items (rw (← c.self.view_is) at c.requires)

pub returns-clause-same : goal.returns-clause-same
returns-clause-same g c =
    rw (← c.self.view_is) (first_takes c.args.kinds.now c.self.inside.ifs.items c.pop.new.self.items
    c.push_reserved.new.self.items c.in-Some.innermost c.take_over_above-taken.new.self c.in-Some.ensures.items
    c.push_reserved.ensures.items (rw (← c.self.view_is) at c.requires) c.take_over_above-taken.ensures.same
    c.take_over_above-taken.ensures.kept c.take_over_above-taken.ensures.fewer).0

pub returns-clause-shared : goal.returns-clause-shared
returns-clause-shared g c =
    (first_takes c.args.kinds.now c.self.inside.ifs.items c.pop.new.self.items c.push_reserved.new.self.items
    c.in-Some.innermost c.take_over_above-taken.new.self c.in-Some.ensures.items c.push_reserved.ensures.items
    (rw (← c.self.view_is) at c.requires) c.take_over_above-taken.ensures.same c.take_over_above-taken.ensures.kept
    c.take_over_above-taken.ensures.fewer).1

pub returns-clause-below : goal.returns-clause-below
returns-clause-below g c =
    on_ok_weaker c.take_over_above-taken.result (λ few. first_below c.args.len c.pop.new.self.items
    c.push_reserved.new.self.items c.take_over_above-taken.new.self c.push_reserved.ensures.items few)
    c.take_over_above-taken.ensures.below
