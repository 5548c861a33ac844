use Rattle.std.proofs.Common.{◌≤◌, ◌∙◌, sym, subst}
use Rattle.std.specs.Prelude.{All}
use Rattle.job_steps.specs.States.{Task}
use Rattle.job_lanes.proofs.lanes.run_lanes.Goals as goal

pub run_out-requires : goal.run_out-requires
run_out-requires g c =
    subst (λ n. All (λ (task : Task). task.limits.words ≤ n) c.run_apart.new.machine.tasks)
    (sym c.in_ok-desk.ensures)
    (subst (All (λ (task : Task). task.limits.words ≤ c.most_words.result)) (sym c.run_apart.ensures.jobs)
    c.most_words.ensures.each)

pub returns-clause-rule : goal.returns-clause-rule
returns-clause-rule g c = c.run_out.ensures.rule ∙ c.run_apart.ensures.rule

pub returns-clause-jobs : goal.returns-clause-jobs
returns-clause-jobs g c = c.run_out.ensures.jobs ∙ c.run_apart.ensures.jobs
