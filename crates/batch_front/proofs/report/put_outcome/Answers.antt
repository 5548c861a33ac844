use Rattle.std.proofs.Common.{List, ℕ, ap, sym, codes, ◌∙◌}
use Rattle.std.specs.List.{flat_map}
use Rattle.job_steps.specs.States.{Vector}
use Rattle.batch_front.specs.Reports.{fault_text, outcome_text, value_text}
use Rattle.batch_front.proofs.PageLemmas.{puts_same, puts_then}
use Rattle.batch_front.proofs.report.put_outcome.Goals as goal

pub returns-in-Returned : goal.returns-in-Returned
returns-in-Returned g c =
    let text = (λ (values : List Vector). flat_map value_text values) in
    let values = puts_same {same = text c.in-Returned.values} c.put_values.ensures (ap text c.as_slice.ensures) in
    puts_same (puts_then c.put.ensures values) (ap outcome_text (sym c.in-Returned.is))

pub returns-in-Fault : goal.returns-in-Fault
returns-in-Fault g c =
    let text = (λ (name : List ℕ). fault_text (codes "FAULT ") c.in-Fault.line name) in
    puts_same c.put_fault.ensures (ap text c.text.ensures ∙ ap outcome_text (sym c.in-Fault.is))

pub returns-in-Memory : goal.returns-in-Memory
returns-in-Memory g c =
    let text = (λ (name : List ℕ). fault_text (codes "MEMORY ") c.in-Memory.line name) in
    puts_same c.put_fault-in-Memory.ensures (ap text c.text-in-Memory.ensures ∙ ap outcome_text (sym c.in-Memory.is))
