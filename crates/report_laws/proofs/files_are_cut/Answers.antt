use Rattle.report_laws.proofs.FateLemmas.{files_are_cut}
use Rattle.report_laws.proofs.files_are_cut.Goals as goal

pub returns : goal.returns
returns c = files_are_cut c.every_text_is_read.ensures c.one_reading.ensures
