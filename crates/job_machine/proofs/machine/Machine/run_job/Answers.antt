use Rattle.std.proofs.Common.{arith}
use Rattle.job_machine.proofs.Stepping.{all_run}
use Rattle.job_machine.proofs.Turns.{Runs, runs_out}
use Rattle.job_machine.proofs.machine.Machine.run_job.Given.{Over}
use Rattle.job_machine.proofs.machine.Machine.run_job.Goals as goal
use Rattle.job_machine.proofs.machine.Machine.run_job.Goals.{After-take_steps, In-Err, In-Ok}

runs : (g : Over) (c : After-take_steps g) → Runs c.args.job c.args.self.now c.take_steps.new.self
runs g c = grind (arith, all_run)

pub returns-in-Ok : goal.returns-in-Ok
returns-in-Ok g c =
    let out = runs_out c.leads_join.ensures c.events_keep.ensures c.events_use_up.ensures _ _ _ _
    c.jobs-jobs.ensures.verified c.jobs-jobs.ensures.kept (runs g (goal.at.returns-in-Ok g c).After-take_steps)
    c.take_steps.ensures.over c.in-Ok.ensures.state in
    record {
      goes_on = out.runs.goes_on;
      no_more = out.runs.no_more;
      ok = out.done;
      refused = tt;
      desk = c.take_steps.ensures.desk;
    }
