use Rattle.verifier.proofs.Keeping.{unseen}
use Rattle.verifier.proofs.stack.KindStack.remove.Goals as goal

pub invariant_of-self-in_err-remove_range : goal.invariant_of-self-in_err-remove_range
invariant_of-self-in_err-remove_range g c =
    (unseen c.self.inside.kinds c.remove_range.new.self c.args.from c.take_over_above.new.self
    c.in_ok-take_over_above.ensures.below c.in_err-remove_range.ensures.below c.in_ok-take_over_above.ensures.shared).1
