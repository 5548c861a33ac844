use Rattle.std.proofs.Common.{◌≡◌, ◌-◌, length, arith}
use Rattle.verifier.proofs.Keeping.{unseen}
use Rattle.verifier.proofs.stack.KindStack.replace_end.Goals as goal

pub invariant_of-self-2 : goal.invariant_of-self-2
invariant_of-self-2 g c =
    let place : length c.self.inside.kinds - length c.args.kinds.now ≡ c.saturating_sub-below.result =
    omega (arith, c.saturating_sub-below.ensures, c.len.ensures) in
    (unseen c.self.inside.kinds c.replace_end.new.self c.saturating_sub-below.result c.take_over_above.new.self
    c.in_ok-take_over_above.ensures.below (rw place at c.replace_end.ensures.below)
    c.in_ok-take_over_above.ensures.shared).1
