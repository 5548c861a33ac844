use Rattle.std.proofs.Common.{take}
use Rattle.std.specs.List.{flat_map}
use Rattle.batch_front.specs.Pages.{Puts}
use Rattle.batch_front.specs.Reports.{value_text}
use Rattle.batch_front.proofs.report.put_values.Given as goal

abbrev pub invariant-loop-value : goal.invariant-loop-value
invariant-loop-value g l =
    Puts g.W.Write.contents l.fn.page l.fn.writer l.page l.writer (flat_map value_text (take l.value-index l.values))
