use Rattle.std.proofs.Common.{arith}
use Rattle.std.proofs.lemmas.Grind.{common_steps}
use Rattle.std.proofs.lemmas.Bool.{not-true}
use Rattle.vcode_reader.proofs.Earlier.{added_else}
use Rattle.vcode_reader.proofs.code.close.Goals as goal

pub push-requires : goal.push-requires
push-requires g c = grind (arith, common_steps, added_else, not-true)
