use Rattle.std.proofs.Common.{arith}
use Rattle.step_scheduler.proofs.CountLemmas.{Adds, adds}
use Rattle.step_scheduler.proofs.counts.executed_in_all.Given.{Over}
use Rattle.step_scheduler.proofs.counts.executed_in_all.Goals as goal
use Rattle.step_scheduler.proofs.counts.executed_in_all.Goals.{After-unwrap_or-sum}

more : (g : Over) (c : After-unwrap_or-sum g) →
    Adds c.args.machine.now c.loop-place.place c.loop-place.sum c.executed.result
more g c =
    let jobs = c.jobs-place-end.ensures in
    adds c.count_laws.ensures.within c.args.machine.now (record { verified = jobs.verified; kept = jobs.kept }) jobs.few
    c.loop-place.place c.loop-place.sum c.executed.result c.loop-place.invariant.sum c.executed.ensures

pub overflow_add-sum : goal.overflow_add-sum
overflow_add-sum g c = omega (arith, (more g c).within, c.unwrap_or-sum.ensures)

pub loop-place-preserved : goal.loop-place-preserved
loop-place-preserved g c = record {
  end = c.loop-place.invariant.end;
  sum = omega (arith, (more g c).sum_is, c.unwrap_or-sum.ensures);
}
