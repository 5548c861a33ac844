use Rattle.std.proofs.Common.{refl}
use Rattle.std.proofs.lemmas.Result.{on_ok_weaker}
use Rattle.batch_reader.proofs.step.step_through.Goals as goal

pub returns-in-Code-clause-fits : goal.returns-in-Code-clause-fits
returns-in-Code-clause-fits g c =
    on_ok_weaker c.more_code.result (λ goes. λ number fits. let known = rw c.in-Code.is at fits in (
      known.0,
      goes number known.1,
    )) c.more_code.ensures.fits

pub returns-in-Code-clause-shown : goal.returns-in-Code-clause-shown
returns-in-Code-clause-shown g c =
    on_ok_weaker c.more_code.result (λ shown. record {
      kept = c.in-Code.field-0;
      before = c.in-Code.part;
      behind = c.more_code.new.part;
      was = c.in-Code.is;
      is = refl;
      shown = shown;
    }) c.more_code.ensures.shown
