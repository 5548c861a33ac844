use Rattle.report_laws.proofs.KindLemmas.{kinds_move}
use Rattle.report_laws.proofs.kinds_move.Goals as goal

pub returns : goal.returns
returns c = kinds_move
