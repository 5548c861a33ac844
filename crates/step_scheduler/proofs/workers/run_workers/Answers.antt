use Rattle.std.proofs.Common.{arith}
use Rattle.step_scheduler.proofs.workers.run_workers.Goals as goal

pub run_first-first-requires : goal.run_first-first-requires
run_first-first-requires g c = rw c.in_ok-desk.ensures c.most_words.ensures.each

pub run_out-requires : goal.run_out-requires
run_out-requires g c =
    rw c.run_first-first.ensures.desk
    (rw c.in_ok-desk.ensures
    (rw c.in_ok-machine.ensures.tasks (rw c.run_first-first.ensures.jobs c.most_words.ensures.each)))

pub returns-clause-rule : goal.returns-clause-rule
returns-clause-rule g c = cc (c.run_out.ensures.rule, c.in_ok-machine.ensures.rule, c.run_first-first.ensures.rule)

pub returns-clause-jobs : goal.returns-clause-jobs
returns-clause-jobs g c = cc (c.run_out.ensures.jobs, c.in_ok-machine.ensures.tasks, c.run_first-first.ensures.jobs)

pub returns-clause-counted : goal.returns-clause-counted
returns-clause-counted g c =
    omega (arith, c.in_ok-rest.ensures.counted, c.in_ok-machine.ensures.counted, c.run_first-first.ensures.counted)
