use Rattle.std.proofs.Common.{◌∙◌, ap}
use Rattle.job_steps.specs.States.{ruled}
use Rattle.job_profile.specs.Comings.{coming_in}
use Rattle.job_profile.specs.Walks.{RunState, progress_of}
use Rattle.job_profile.proofs.Counted.{first_profile}
use Rattle.job_profile.proofs.profile.Profile.new.Goals as goal

pub invariant_of-result : goal.invariant_of-result
invariant_of-result g c =
    let strip = c.in_ok-strip.ensures in
    rw (c.in_ok-uses.ensures, c.new-times.ensures.items, strip.0, strip.1, strip.2)
    (first_profile (ruled c.args.rule c.args.job) c.coming-coming.result c.verified-verified.ensures.verified_program
    (c.coming-coming.ensures ∙ ap (λ (r : RunState). coming_in (progress_of r)) (c.run.ensures ∙ c.in_ok-uses.ensures)))
