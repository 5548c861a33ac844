use Rattle.std.proofs.Common.{arith}
use Rattle.std.proofs.lemmas.Grind.{common_steps}
use Rattle.batch_front.specs.Reports.{value_text}
use Rattle.batch_front.proofs.PageLemmas.{puts_more}
use Rattle.batch_front.proofs.report.put_values.Goals as goal

pub loop-value-preserved : goal.loop-value-preserved
loop-value-preserved g c =
    puts_more value_text c.args.values.now c.loop-value.value-index c.value-item.result (grind (arith, common_steps))
    (grind (arith, common_steps)) c.loop-value.invariant c.put_value.ensures
