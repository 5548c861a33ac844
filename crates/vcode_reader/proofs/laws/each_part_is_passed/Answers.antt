use Rattle.vcode_reader.proofs.Codes.{each_part_is_passed}
use Rattle.vcode_reader.proofs.laws.each_part_is_passed.Goals as goal

pub returns : goal.returns
returns c = each_part_is_passed
