use Rattle.std.proofs.Common.{◌+◌, ◌∙◌, ap, arith}
use Rattle.std.proofs.lemmas.List.{take_all}
use Rattle.job_machine.proofs.FreshWorkbench.{fresh, fresh_jobs, fresh-ruled, fresh_more, fresh_fit}
use Rattle.job_machine.proofs.workbench.Workbench.new.Goals as goal

pub loop-job-preserved : goal.loop-job-preserved
loop-job-preserved g c =
    fresh_more c.in_order-jobs.result.now c.loop-job.workplaces.items c.push.new.self.items c.loop-job.job-index
    (c.loop-job.job-index + 1) c.in_ok-desk.desk c.job-item.result (omega arith) c.loop-job-test.true c.job-item.is
    c.loop-job.invariant (c.in_ok-desk.ensures ∙ ap (λ l. l.words) c.limits.ensures) c.in_ok-push.ensures.items

pub returns : goal.returns
returns g c = grind (arith, fresh_fit, fresh_jobs, take_all, fresh-ruled, fresh)
