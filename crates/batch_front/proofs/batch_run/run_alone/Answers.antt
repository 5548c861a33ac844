use Rattle.batch_front.proofs.WholeRuns.{run_reported}
use Rattle.batch_front.proofs.batch_run.run_alone.Goals as goal

pub returns-clause-runs : goal.returns-clause-runs
returns-clause-runs g c =
    run_reported _ _ _ _ _ _ _ c.in_ok-loaded.loaded c.in_ok-ran.ran c.interrupts.result c.write_report.result
    c.in_ok-loaded.ensures.loaded c.in_ok-loaded.ensures.read c.in_ok-ran.ensures c.interrupts.ensures
    c.write_report.ensures.status c.write_report.ensures.written
