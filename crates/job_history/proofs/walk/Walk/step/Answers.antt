use Rattle.std.proofs.Common.{arith}
use Rattle.job_history.proofs.Gone.{fits, gone_one}
use Rattle.job_history.proofs.walk.Walk.step.Goals as goal

pub overflow_add-self : goal.overflow_add-self
overflow_add-self g c = omega (arith, fits c.reached.ensures c.requires.at c.requires.on)

pub returns-clause-gone : goal.returns-clause-gone
returns-clause-gone g c = gone_one c.requires.at c.requires.on c.in_ok-advance.ensures
