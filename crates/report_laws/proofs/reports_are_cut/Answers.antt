use Rattle.report_laws.proofs.LawLemmas.{reports_are_cut}
use Rattle.report_laws.proofs.reports_are_cut.Goals as goal

pub returns : goal.returns
returns c = reports_are_cut
