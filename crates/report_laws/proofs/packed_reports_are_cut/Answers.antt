use Rattle.report_laws.proofs.PackedLemmas.{packed_reports_are_cut}
use Rattle.report_laws.proofs.packed_reports_are_cut.Goals as goal

pub returns : goal.returns
returns c = packed_reports_are_cut c.every_text_is_read.ensures c.one_reading.ensures c.joined_jobs.ensures
