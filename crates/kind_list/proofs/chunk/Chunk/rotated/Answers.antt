use Rattle.std.proofs.Common.{◌≡◌, ◌+◌, ◌-◌, refl, arith}
use Rattle.kind_list.proofs.Digits.{holds, held_chunk, Holds-append, Holds-take, Holds-drop, Holds-lt}
use Rattle.kind_list.proofs.chunk.Chunk.rotated.Goals as goal

pub joined-requires-clause-low : goal.joined-requires-clause-low
joined-requires-clause-low c =
    let all = holds c.self.invariant.packed c.self.view_is in
    Holds-lt (Holds-drop c.args.count (c.self.inside.len - c.args.count) (omega arith) all refl)

pub invariant_of-result : goal.invariant_of-result
invariant_of-result c =
    let all = holds c.self.invariant.packed c.self.view_is in
    let high = Holds-drop c.args.count (c.self.inside.len - c.args.count) (omega arith) all refl in
    let low = Holds-take c.args.count (omega arith) all c.digits_below-low.ensures in
    let whole : c.self.inside.len - c.args.count + c.args.count ≡ c.self.inside.len = omega arith in
    rw whole at (held_chunk (omega arith) (Holds-append high low c.joined.ensures)).0

pub returns : goal.returns
returns c =
    let all = holds c.self.invariant.packed c.self.view_is in
    let high = Holds-drop c.args.count (c.self.inside.len - c.args.count) (omega arith) all refl in
    let low = Holds-take c.args.count (omega arith) all c.digits_below-low.ensures in
    let whole : c.self.inside.len - c.args.count + c.args.count ≡ c.self.inside.len = omega arith in
    rw whole at (held_chunk (omega arith) (Holds-append high low c.joined.ensures)).1
