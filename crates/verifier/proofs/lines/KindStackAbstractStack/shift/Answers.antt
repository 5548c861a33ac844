use Rattle.std.proofs.Common.{◌≡◌, ◌+◌, ◌-◌, ◌≤◌, arith, length}
use Rattle.verifier.specs.First.{count_below}
use Rattle.verifier.proofs.Keeping.{moved}
use Rattle.verifier.proofs.lines.KindStackAbstractStack.shift.Goals as goal

pub place-requires : goal.place-requires
place-requires g c = omega (arith, c.if-len-count.false, c.len.ensures, c.len-2.ensures)

pub returns : goal.returns
returns g c =
    let count = c.args.lower + c.args.upper in
    let enough : count ≤ length c.args.self.now.kinds = omega (arith, c.if-len-count.false, c.len.ensures) in
    let below : c.len-2.result - count ≡ count_below count c.args.self.now.kinds = omega (arith, c.len-2.ensures) in
    moved c.args.motion c.args.lower c.args.upper c.args.line c.args.self.now c.place.new.stack
    (c.len-2.result - count) enough below c.in_ok-place.ensures
