use Rattle.std.proofs.Common.{refl}
use Rattle.std.proofs.lemmas.Result.{on_ok_weaker}
use Rattle.batch_reader.specs.Standings.{shown_line}
use Rattle.batch_reader.proofs.StepLemmas.{stays_in_code, stays_in_signatures}
use Rattle.batch_reader.proofs.step.step_inside.Goals as goal

pub returns-in-Code-clause-fits : goal.returns-in-Code-clause-fits
returns-in-Code-clause-fits g c =
    let known = rw c.in-Code.is at c.requires.fits in
    on_ok_weaker c.more_code.result (λ fits. (known.0, fits c.args.line.place known.1)) c.more_code.ensures.fits

pub returns-in-Code-clause-turns : goal.returns-in-Code-clause-turns
returns-in-Code-clause-turns g c =
    on_ok_weaker c.more_code.result (λ goes. stays_in_code c.in-Code.field-0 c.in-Code.part c.more_code.new.part
    c.args.stage.now (shown_line c.args.line) refl c.in-Code.is c.requires.stays goes)
    c.more_code.ensures.shown

pub returns-in-Signatures-clause-turns : goal.returns-in-Signatures-clause-turns
returns-in-Signatures-clause-turns g c =
    on_ok_weaker c.more_signatures.result (λ goes. stays_in_signatures c.in-Signatures.field-0 c.in-Signatures.part
    c.more_signatures.new.part c.args.stage.now (shown_line c.args.line) refl c.in-Signatures.is c.requires.stays goes)
    c.more_signatures.ensures.shown
