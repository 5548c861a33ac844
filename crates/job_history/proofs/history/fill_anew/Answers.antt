use Rattle.job_history.proofs.Gone.{sound_filled}
use Rattle.job_history.proofs.history.fill_anew.Goals as goal

pub invariant_of-result : goal.invariant_of-result
invariant_of-result g c =
    sound_filled c.args.walk.run.task c.args.target c.fill.new.walk.run c.fill.new.walk.at c.fill.new.window.first
    c.fill.new.window.states.items c.in-Ok.ensures
