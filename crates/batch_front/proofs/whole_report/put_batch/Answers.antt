use Rattle.std.proofs.Common.{List, ℕ, ap, sym, codes, ◌∙◌}
use Rattle.batch_front.specs.LoadedBatches.{loaded_text}
use Rattle.batch_front.specs.Reports.{fault_text}
use Rattle.batch_front.proofs.PageLemmas.{puts_same}
use Rattle.batch_front.proofs.whole_report.put_batch.Goals as goal

pub returns-in-Refused : goal.returns-in-Refused
returns-in-Refused g c =
    let text = (λ (name : List ℕ). fault_text (codes "BATCH ") c.in-Refused.line name) in
    puts_same c.put_fault.ensures (ap text c.text.ensures ∙ ap loaded_text (sym c.in-Refused.is))
