use Rattle.std.proofs.Common.{◌≡◌, length, arith, rules}
use Rattle.vcode_reader.proofs.Pooling.{pushed_pooled}
use Rattle.vcode_reader.proofs.Earlier.{adds_line}
use Rattle.vcode_reader.proofs.code_lines.GrowingLines.push.Goals as goal

pub add_line-requires : goal.add_line-requires
add_line-requires g c =
    let long : c.len.result ≡ length c.self.inside.lines.items = omega (arith, c.len.ensures) in
    let room = rw (← c.self.view_is) at c.requires in
    let adds = adds_line _ _ _ _ _ _ c.args.line c.self.invariant long c.first_with-first.ensures room in
    record { after = adds.after; near = adds.near; list = adds.list; name = adds.name }

pub invariant_of-self-2 : goal.invariant_of-self-2
invariant_of-self-2 g c =
    let added = c.in_ok-add_line.ensures in
    let long : c.len.result ≡ length c.self.inside.lines.items = omega (arith, c.len.ensures) in
    let room = rw (← c.self.view_is) at c.requires in
    let adds = adds_line _ _ _ _ _ _ c.args.line c.self.invariant long c.first_with-first.ensures room in
    pushed_pooled _ _ _ _ _ _ _ _ c.len.result c.args.line c.self.invariant long c.first_with-first.ensures
    adds.after added.lines added.lists added.names (search rules)
