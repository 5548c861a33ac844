use Rattle.std.proofs.Common.{rules, ◌≡◌, ◌+◌, min, length, arith}
use Rattle.holes.proofs.Near.{found_near_if}
use Rattle.holes.proofs.tree.find_near.Goals as goal

pub returns : goal.returns
returns c =
    let least : c.min.result ≡ min (length c.args.bits.now) (c.args.near + 8) = search rules in
    let found = found_near_if c.find_in.result c.args.bits.now c.args.len c.args.near c.min.result c.requires.some
    (omega arith) (omega arith) c.requires.none_below c.find_in.ensures.none.1 c.find_in.ensures.lowest in
    record { fits = found.0; lowest = found.1 }
