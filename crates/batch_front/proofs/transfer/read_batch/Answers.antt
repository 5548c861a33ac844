use Rattle.std.proofs.Common.{arith}
use Rattle.batch_front.proofs.ReportedJobLemmas.{batch_fits}
use Rattle.batch_front.proofs.transfer.read_batch.Goals as goal

pub returns-in_ok-end-in-Ok-clause-batch : goal.returns-in_ok-end-in-Ok-clause-batch
returns-in_ok-end-in-Ok-clause-batch g c =
    let fed = c.in-Ok.ensures.bytes in
    record { bytes = fed.0; first = fed.2; comes = grind (arith, c.in_ok-end-in-Ok.ensures.batch fed.0 fed.1) }

pub returns-in_ok-end-in-Ok-clause-fits : goal.returns-in_ok-end-in-Ok-clause-fits
returns-in_ok-end-in-Ok-clause-fits g c =
    let fed = c.in-Ok.ensures.bytes in
    grind (arith, batch_fits _ _ _ (c.in_ok-end-in-Ok.ensures.batch fed.0 fed.1))

pub returns-in_ok-end-in-Ok-clause-few : goal.returns-in_ok-end-in-Ok-clause-few
returns-in_ok-end-in-Ok-clause-few g c = c.in_ok-end-in-Ok.ensures.few c.in-Ok.ensures.bytes.0 c.in-Ok.ensures.bytes.1
