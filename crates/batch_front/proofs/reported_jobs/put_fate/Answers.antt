use Rattle.std.proofs.Common.{List, ℕ, ap, sym, codes, ◌∙◌}
use Rattle.batch_front.specs.Reports.{fault_text}
use Rattle.batch_front.specs.ReportedJobs.{fate_text_on}
use Rattle.batch_front.proofs.PageLemmas.{puts_same}
use Rattle.batch_front.proofs.reported_jobs.put_fate.Goals as goal

pub returns-in-Refused : goal.returns-in-Refused
returns-in-Refused g c =
    let text = (λ (name : List ℕ). fault_text (codes "REFUSED ") c.in-Refused.line name) in
    puts_same c.put_fault.ensures (ap text c.text.ensures ∙ ap (fate_text_on c.args.machine.now.tasks)
    (sym c.in-Refused.is))
