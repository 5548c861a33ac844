use Rattle.job_history.proofs.Gone.{fits}
use Rattle.job_history.proofs.window.keep_present.Goals as goal

pub keep-requires-clause-fits : goal.keep-requires-clause-fits
keep-requires-clause-fits g c = fits c.reached.ensures c.requires.mirrors.run_at c.requires.on
