use Rattle.std.proofs.Common.{◌≡◌, ◌-◌, ◌≤◌, ◌∙◌, length, drop, ap, arith}
use Rattle.std.proofs.lemmas.List.{length-take-le, length-drop}
use Rattle.verifier.specs.Kept.{SharedList}
use Rattle.verifier.proofs.Keeping.{taken_over}
use Rattle.verifier.proofs.open_ifs.BeginList.take_over.Goals as goal

pub prepend-requires : goal.prepend-requires
prepend-requires g c =
    let ks = c.args.kinds.now in
    let place = c.self.inside.shared - 32 in
    let same : c.self.inside.shared ≡ c.args.self.now.shared = ap (λ (l : SharedList). l.shared) c.self.view_is in
    let least : 32 ≤ c.self.inside.shared = omega (arith, c.self.invariant, same, c.requires.some) in
    ap length c.chunk.ensures
    ∙ length-take-le 32 (drop place ks) (omega (arith, length-drop place ks, same, least, c.requires.within))

pub returns-clause-same : goal.returns-clause-same
returns-clause-same g c =
    let same : c.self.inside.shared ≡ c.args.self.now.shared = ap (λ (l : SharedList). l.shared) c.self.view_is in
    let least : 32 ≤ c.self.inside.shared = omega (arith, c.self.invariant, same, c.requires.some) in
    taken_over c.args.kinds.now c.chunk.result c.self.inside.above c.prepend.new.self c.self.inside.shared
    c.args.self.now c.self.view_is least c.chunk.ensures c.in_ok-prepend.ensures.added
