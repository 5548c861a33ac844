use Rattle.vcode_reader.specs.Parsing.{take}
use Rattle.vcode_reader.proofs.Pieces.{same_room}
use Rattle.vcode_reader.proofs.reader.Scanner.number.Goals as goal

pub numbers-requires-clause-room : goal.numbers-requires-clause-room
numbers-requires-clause-room g c =
    same_room take c.args.self.now c.next_number.new.self _ _ _ (rw c.in-Some.is at c.in_ok-rest.ensures.same)
    c.requires.room
