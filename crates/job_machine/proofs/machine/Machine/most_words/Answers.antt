use Rattle.std.proofs.Common.{◌≤◌}
use Rattle.std.proofs.lemmas.List.Elements.{All-map}
use Rattle.job_steps.specs.States.{Task, ruled}
use Rattle.job_machine.proofs.machine.Machine.most_words.Goals as goal

pub returns-clause-each : goal.returns-clause-each
returns-clause-each g c =
    rw (← c.in_order.ensures) (All-map (λ (task : Task). task.limits.words ≤ c.most_words.result)
    (ruled c.args.self.now.rule) c.in_order.result.now c.most_words.ensures.each)
