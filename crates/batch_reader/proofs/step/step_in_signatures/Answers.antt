use Rattle.std.proofs.Common.{arith}
use Rattle.batch_reader.proofs.step.step_in_signatures.Goals as goal

pub returns-in_ok-part-in-Code-clause-fits : goal.returns-in_ok-part-in-Code-clause-fits
returns-in_ok-part-in-Code-clause-fits g c = (c.requires.name, c.in_ok-part-in-Code.ensures.fits _ (omega arith))
