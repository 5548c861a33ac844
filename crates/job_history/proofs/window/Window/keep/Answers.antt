use Rattle.job_history.proofs.Kepts.{kept_behind, kept_more}
use Rattle.job_history.proofs.window.Window.keep.Goals as goal

pub returns-clause-kept : goal.returns-clause-kept
returns-clause-kept g c = λ task h shows.
    let with_it = c.first_with-self.ensures in
    kept_behind (kept_more with_it.kept with_it.up_to c.in_ok-push_back.ensures.items h shows) c.shrink.ensures
