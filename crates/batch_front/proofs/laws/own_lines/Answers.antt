use Rattle.batch_front.proofs.LineLemmas.{own_lines, own_lines_in_batches}
use Rattle.batch_front.proofs.laws.own_lines.Goals as goal

pub returns-clause-entries : goal.returns-clause-entries
returns-clause-entries c = own_lines c.one_entry.ensures

pub returns-clause-batches : goal.returns-clause-batches
returns-clause-batches c = own_lines_in_batches c.one_entry.ensures
