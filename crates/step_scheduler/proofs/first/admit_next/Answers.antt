use Rattle.std.proofs.Common.{refl}
use Rattle.job_steps.specs.declared.event.Event.TheVariants.{Admit}
use Rattle.step_scheduler.proofs.CountLemmas.{continues_after}
use Rattle.step_scheduler.proofs.first.admit_next.Goals as goal

pub returns : goal.returns
returns g c =
    continues_after c.count_laws.ensures.others Admit refl c.args.machine.now c.admit.new.self
    (record { verified = c.jobs-jobs.ensures.verified; kept = c.jobs-jobs.ensures.kept }) c.admit.ensures.state
