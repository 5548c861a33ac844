-- As long as a job is admitted, it runs to its end, which leaves fewer events; when none is, all are collected.
use Rattle.std.proofs.Common.{sym, ◌∙◌, arith}
use Rattle.job_machine.proofs.RunningOut.{goes_on_on, leads_on}
use Rattle.job_machine.proofs.Turns.{Admits, admits, idle_to, out, runs_on}
use Rattle.job_machine.proofs.machine.Machine.run_all.Given.{Over}
use Rattle.job_machine.proofs.machine.Machine.run_all.Goals as goal
use Rattle.job_machine.proofs.machine.Machine.run_all.Goals.{In-Admitted}

held : (g : Over) (c : goal.In-Admitted g) → Admits c.in-Admitted.job c.loop-job.self c.admit.new.self
held g c =
    admits c.admitted_have_room.ensures c.events_keep.ensures c.events_use_up.ensures c.in-Admitted.job _ _ _ _
    c.jobs-jobs.ensures.verified c.jobs-jobs.ensures.kept c.loop-job.invariant.0 (sym c.in-Admitted.ensures.answer)
    c.in-Admitted.ensures.state

pub loop-job-init : goal.loop-job-init
loop-job-init g c =
    let ran = c.run_admitted-ran.ensures in
    (idle_to _ _ _ ran.leads ran.no_step (rw c.in_default.is at ran.ok), ran.desk)

pub run_job-ran-requires-clause-no_step : goal.run_job-ran-requires-clause-no_step
run_job-ran-requires-clause-no_step g c =
    (held g (goal.at.run_job-ran-requires-clause-no_step g c).In-Admitted).goes_on.no_step

pub returns-in-Err-ran-clause-leads : goal.returns-in-Err-ran-clause-leads
returns-in-Err-ran-clause-leads g c =
    let held = held g (goal.at.returns-in-Err-ran-clause-leads g c).In-Admitted in
    leads_on c.leads_join.ensures _ _ _ (leads_on c.leads_join.ensures _ _ _ c.loop-job.invariant.0.leads
    held.goes_on.leads) c.run_job-ran.ensures.goes_on.leads

pub loop-job-smaller : goal.loop-job-smaller
loop-job-smaller g c =
    omega (arith, (held g (goal.at.loop-job-smaller g c).In-Admitted).fewer, c.run_job-ran.ensures.no_more)

pub loop-job-preserved : goal.loop-job-preserved
loop-job-preserved g c =
    let held = held g (goal.at.loop-job-preserved g c).In-Admitted in
    let goes = goes_on_on c.leads_join.ensures c.in-Admitted.job _ _ _ held.goes_on c.run_job-ran.ensures.goes_on in (
      runs_on c.leads_join.ensures c.in-Admitted.job _ _ _ _ _ c.loop-job.invariant.0 goes
          (rw c.in_default-ran.is at c.run_job-ran.ensures.ok) (λ k within apart. within),
      c.run_job-ran.ensures.desk ∙ c.loop-job.invariant.1,
    )

pub returns : goal.returns
returns g c =
    let ends = out c.leads_join.ensures c.events_go_on.ensures c.events_keep.ensures _ _ _ c.jobs-jobs.ensures.verified
    c.jobs-jobs.ensures.kept c.jobs-jobs.ensures.fitting c.loop-job.invariant.0
    (λ job e. c.in_default-admit.not-Admitted job (c.admit.ensures.answer ∙ e)) c.admit.ensures.state in
    record {
      leads = ends.leads;
      no_step = ends.no_step;
      ok = ends.collected;
      refused = tt;
      desk = c.loop-job.invariant.1;
    }
