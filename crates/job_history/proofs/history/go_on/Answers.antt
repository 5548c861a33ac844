use Rattle.job_history.proofs.Gone.{sound_at}
use Rattle.job_history.proofs.history.go_on.Goals as goal

pub invariant_of-result : goal.invariant_of-result
invariant_of-result g c =
    sound_at c.args.walk.run c.go_on.new.self.run c.go_on.new.self.at c.args.window.first c.args.window.states.items
    c.requires.kept c.in-Ok.ensures.later.task_is c.in-Ok.ensures.run_at
