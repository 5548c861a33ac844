use Rattle.std.proofs.Common.{arith}
use Rattle.holes.proofs.Near.{all_between}
use Rattle.holes.proofs.Regions.{view_widest}
use Rattle.holes.proofs.Holes.widest.Goals as goal

pub returns : goal.returns
returns g c =
    let wide = view_widest c.self.invariant c.self.view_is in
    let all = all_between c.self.inside.bits.items c.len.result in
    grind arith
