use Rattle.std.proofs.Common.{arith, to_z-of_z}
use Rattle.std.proofs.lemmas.Grind.{common_steps}
use Rattle.std.proofs.lemmas.Result.{on_ok_weaker}
use Rattle.vcode_reader.proofs.Numerals.{of_number}
use Rattle.vcode_reader.proofs.parser.Parser.take_constant.Goals as goal

pub add_instruction-requires-clause-fits : goal.add_instruction-requires-clause-fits
add_instruction-requires-clause-fits g c = grind (arith, common_steps, to_z-of_z, of_number)

pub returns : goal.returns
returns g c = grind (arith, common_steps, to_z-of_z, on_ok_weaker, of_number)
