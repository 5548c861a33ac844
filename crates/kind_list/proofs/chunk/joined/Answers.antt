use Rattle.std.proofs.Common.{◌*◌, arith}
use Rattle.std.proofs.lemmas.Nat.{shl_whole, or_shifted}
use Rattle.kind_list.proofs.chunk.joined.Goals as goal

pub returns : goal.returns
returns c =
    rw (shl_whole c.args.high (2 * c.args.more) (2 * c.args.len) 64 c.requires.high (omega arith))
    (or_shifted c.args.high (2 * c.args.len) c.args.low c.requires.low)
