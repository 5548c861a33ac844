use Rattle.report_laws.proofs.RunLemmas.{runs_move}
use Rattle.report_laws.proofs.runs_move.Goals as goal

pub returns : goal.returns
returns c = runs_move
