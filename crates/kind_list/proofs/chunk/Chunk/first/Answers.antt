use Rattle.std.proofs.Common.{arith}
use Rattle.kind_list.proofs.Digits.{holds, held_chunk, Holds-take}
use Rattle.kind_list.proofs.chunk.Chunk.first.Goals as goal

pub invariant_of-result : goal.invariant_of-result
invariant_of-result c =
    let all = holds c.self.invariant.packed c.self.view_is in
    (held_chunk (omega arith) (Holds-take c.args.count (omega arith) all c.digits_below.ensures)).0

pub returns : goal.returns
returns c =
    let all = holds c.self.invariant.packed c.self.view_is in
    (held_chunk (omega arith) (Holds-take c.args.count (omega arith) all c.digits_below.ensures)).1
