use Rattle.report_laws.proofs.ReadingLemmas.{code_moves}
use Rattle.report_laws.proofs.code_moves.Goals as goal

pub returns : goal.returns
returns c = code_moves
