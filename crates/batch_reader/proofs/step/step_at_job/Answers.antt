use Rattle.std.proofs.Common.{refl, ◌∙◌}
use Rattle.batch_reader.proofs.StepLemmas.{turns_at_job, turns_at_last_job}
use Rattle.batch_reader.proofs.step.step_at_job.Goals as goal

pub returns-then-ended-ge-MOST_JOBS-clause-turns : goal.returns-then-ended-ge-MOST_JOBS-clause-turns
returns-then-ended-ge-MOST_JOBS-clause-turns g c =
    λ region room l has says. turns_at_last_job region c.args.ended room c.args.line l _ has says
    c.if-ended-ge-MOST_JOBS.true

pub returns-clause-turns : goal.returns-clause-turns
returns-clause-turns g c =
    λ region room l has says. turns_at_job region c.args.ended room c.args.line l _ _ has says
    c.if-ended-ge-MOST_JOBS.false
    (record { name = c.from_vec-name.ensures ∙ c.in_ok-from_slice.ensures.items; limits = refl; line = refl })
