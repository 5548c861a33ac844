use Rattle.std.proofs.Common.{◌≤◌, arith}
use Rattle.std.proofs.lemmas.Bool.Decides.{nat_tests}
use Rattle.verifier.proofs.Keeping.{first_shares_at_most}
use Rattle.verifier.proofs.open_ifs.OpenIfs.shares_at_most.Goals as goal

pub returns-in-len1-up : goal.returns-in-len1-up
returns-in-len1-up g c =
    let is = c.shared.ensures in
    let decides = first_shares_at_most c.args.count c.self.inside.ifs.items c.as_slice.result.now c.args.self.now
    c.innermost-item.result c.as_slice.ensures.value c.self.view_is c.in-len1-up.len_at_least c.innermost-item.is in (
      λ yes. decides.0 (let few : c.shared.result ≤ c.args.count = grind (arith, nat_tests, yes) in omega (
        arith,
        few,
        is,
      )),
      λ few. let most = decides.1 few in
          let fewer : c.shared.result ≤ c.args.count = omega (arith, most, is) in grind (arith, nat_tests, fewer),
    )
