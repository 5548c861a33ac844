use Rattle.std.proofs.Common.{◌∙◌, arith}
use Rattle.vcode_reader.specs.Parsing.{take}
use Rattle.vcode_reader.proofs.Pieces.{same_room}
use Rattle.vcode_reader.proofs.reader.Scanner.numbers.Goals as goal

pub numbers-preserved : goal.numbers-preserved
numbers-preserved g c =
    let same = (rw c.in-Some.is at c.in_ok-behind.ensures.same) in
    let shorter = (rw c.in-Some.is at c.in_ok-behind.ensures.shorter) in
    record {
      text = c.next_number.ensures.text;
      number = c.next_number.ensures.number;
      room = same_room take c.numbers.self c.next_number.new.self _ _ _ same c.numbers.invariant.room;
      within = omega (arith, shorter, c.numbers.invariant.within);
      same = c.numbers.invariant.same ∙ same;
    }
