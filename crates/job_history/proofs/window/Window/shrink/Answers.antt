use Rattle.std.proofs.Common.{arith}
use Rattle.job_history.proofs.Kepts.{behinds}
use Rattle.job_history.proofs.window.Window.shrink.Goals as goal

pub loop-init : goal.loop-init
loop-init g c = grind arith

pub forget-requires : goal.forget-requires
forget-requires g c = grind (arith, behinds)

pub loop-preserved : goal.loop-preserved
loop-preserved g c = grind (arith, behinds)
