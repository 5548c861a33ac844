use Rattle.std.proofs.Common.{arith}
use Rattle.kind_list.proofs.Digits.{holds, held_chunk, Holds-append}
use Rattle.kind_list.proofs.chunk.Chunk.then.Goals as goal

pub invariant_of-result : goal.invariant_of-result
invariant_of-result c =
    let low = holds c.self.invariant.packed c.self.view_is in
    let high = holds c.other.invariant.packed c.other.view_is in
    (held_chunk (omega arith) (Holds-append low high c.joined.ensures)).0

pub returns : goal.returns
returns c =
    let low = holds c.self.invariant.packed c.self.view_is in
    let high = holds c.other.invariant.packed c.other.view_is in
    (held_chunk (omega arith) (Holds-append low high c.joined.ensures)).1
