use Rattle.report_laws.proofs.RefusalLemmas.{signatures_move}
use Rattle.report_laws.proofs.signatures_move.Goals as goal

pub returns : goal.returns
returns c = signatures_move c.every_text_is_read.ensures c.one_reading.ensures
