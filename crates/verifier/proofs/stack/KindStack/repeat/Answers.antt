use Rattle.std.proofs.Common.{drop, take}
use Rattle.verifier.proofs.Keeping.{on_top}
use Rattle.verifier.proofs.stack.KindStack.repeat.Goals as goal

pub invariant_of-self-2 : goal.invariant_of-self-2
invariant_of-self-2 g c =
    let ks = c.self.inside.kinds in
    rw c.in_ok-repeat_range.ensures.added (on_top ks (take c.args.count (drop c.args.from ks)) c.self.inside.ifs
    c.self.invariant).1
