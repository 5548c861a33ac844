use Rattle.std.proofs.Common.{refl, ap}
use Rattle.job_steps.specs.States.{ruled}
use Rattle.job_profile.specs.Walks.{RunState, lists_in, progress_of}
use Rattle.job_history.proofs.Gone.{first_at}
use Rattle.job_history.proofs.walk.Walk.new.Goals as goal

pub returns-in-Ok-clause-first : goal.returns-in-Ok-clause-first
returns-in-Ok-clause-first g c =
    record {
      run_at =
          first_at (ruled c.args.rule c.args.job) c.in_ok-run.run' c.in_ok-run.ensures
          c.verified-verified.ensures.verified_program;
      at_is = refl;
      lists = ap (λ (r : RunState). lists_in (progress_of r)) c.in_ok-run.ensures;
    }
