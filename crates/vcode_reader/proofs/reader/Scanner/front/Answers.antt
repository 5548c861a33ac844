use Rattle.std.proofs.lemmas.List.{drop_more}
use Rattle.vcode_reader.specs.Parsing.{take}
use Rattle.vcode_reader.proofs.Earlier.{first_byte_fits}
use Rattle.vcode_reader.proofs.Pieces.{next_room, same_room}
use Rattle.vcode_reader.proofs.reader.Scanner.front.Goals as goal

pub pass_separator-requires : goal.pass_separator-requires
pass_separator-requires g c =
    same_room take c.args.self.now c.plain_bytes.new.self _ _ _ c.in_ok-rest.ensures.same c.requires.room

pub byte-requires-clause-fits : goal.byte-requires-clause-fits
byte-requires-clause-fits g c =
    first_byte_fits c.args.self.now _ _ _ (drop_more c.args.text.now 0 0 c.requires.some) c.requires.fits

pub byte-requires-clause-room : goal.byte-requires-clause-room
byte-requires-clause-room g c =
    next_room c.args.self.now _ _ _ _ (drop_more c.args.text.now 0 0 c.requires.some) c.requires.room
