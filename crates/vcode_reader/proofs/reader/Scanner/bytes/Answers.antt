use Rattle.std.proofs.Common.{◌∙◌}
use Rattle.vcode_reader.specs.Parsing.{take}
use Rattle.vcode_reader.proofs.Earlier.{rest_fits}
use Rattle.vcode_reader.proofs.Pieces.{same_room}
use Rattle.vcode_reader.proofs.reader.Scanner.bytes.Goals as goal

pub text-preserved : goal.text-preserved
text-preserved g c =
    let same = c.in_ok-rest.ensures.same in
    record {
      room = same_room take c.text.self c.front.new.self _ _ _ same c.text.invariant.room;
      fits = rest_fits c.text.self c.front.new.self _ _ same c.text.invariant.fits;
      same = c.text.invariant.same ∙ same;
    }
