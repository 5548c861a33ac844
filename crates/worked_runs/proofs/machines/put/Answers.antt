use Rattle.std.proofs.Common.{arith, ◌≤◌}
use Rattle.std.proofs.lemmas.List.Elements.{All-push}
use Rattle.worked_runs.proofs.machines.put.Goals as goal

pub returns-clause-words : goal.returns-clause-words
returns-clause-words g c =
    let pushed = All-push (λ job. job.limits.words ≤ c.args.most) c.args.jobs.now.items c.args.job c.requires.words
    (grind arith) in
    grind (arith, pushed)
