use Rattle.verifier.proofs.Keeping.{on_top}
use Rattle.verifier.proofs.stack.KindStack.extend.Goals as goal

pub invariant_of-self-2 : goal.invariant_of-self-2
invariant_of-self-2 g c =
    rw c.in_ok-extend_from_slice.ensures.added (on_top c.self.inside.kinds c.args.kinds.now c.self.inside.ifs
    c.self.invariant).1
