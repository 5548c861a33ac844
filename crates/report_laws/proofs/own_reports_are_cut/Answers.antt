use Rattle.report_laws.proofs.LawLemmas.{own_reports_are_cut}
use Rattle.report_laws.proofs.own_reports_are_cut.Goals as goal

pub returns : goal.returns
returns c = own_reports_are_cut
