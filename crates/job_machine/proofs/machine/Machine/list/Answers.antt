use Rattle.std.proofs.Common.{◌≡◌, ap, map}
use Rattle.std.proofs.lemmas.Result.{IfOk-weaker}
use Rattle.std.specs.Arc.{arc_value}
use Rattle.job_steps.specs.States.{ruled}
use Rattle.job_machine.proofs.machine.Machine.list.Goals as goal

pub returns : goal.returns
returns g c =
    IfOk-weaker c.try_clone.result (λ list. arc_value list ≡ arc_value c.self.inside.jobs)
    (λ list. map (ruled c.args.self.now.rule) (arc_value list).items ≡ c.args.self.now.tasks)
    (λ list e. rw (← c.self.view_is) (ap (λ jobs. map (ruled c.self.inside.rule) jobs.items) e)) c.try_clone.ensures
