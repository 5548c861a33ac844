use Rattle.job_history.proofs.Gone.{sound_first}
use Rattle.job_history.proofs.history.History.new.Goals as goal

pub invariant_of-result : goal.invariant_of-result
invariant_of-result g c =
    sound_first c.in_ok-walk.walk.run c.in_ok-walk.walk.at c.in-Ok.window.first c.in-Ok.window.states.items
    c.in_ok-walk.ensures.first c.in-Ok.ensures
