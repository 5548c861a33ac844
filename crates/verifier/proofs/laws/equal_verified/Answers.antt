use Rattle.std.proofs.lemmas.Bool.Decides.{Decides-at}
use Rattle.verifier.proofs.laws.equal_verified.Goals as goal

pub returns : goal.returns
returns g c = Decides-at _ _ c.eq.ensures (c.equality_is_exact.ensures c.args.left.now c.args.right.now)
