use Rattle.step_scheduler.specs.Tallies.{executed_sum}
use Rattle.step_scheduler.proofs.workers.run_shared.Given as goal

abbrev pub ghosts-run_threads-L-Ledger : goal.ghosts-run_threads-L-Ledger
ghosts-run_threads-L-Ledger g a = record { name = a.blank.name; parts = a.blank.parts }

abbrev pub ghosts-run_threads-L-Opening : goal.ghosts-run_threads-L-Opening
ghosts-run_threads-L-Opening g a = record {
  executed_before = executed_sum a.machine;
  given_rule = a.machine.rule;
  given_tasks = a.machine.tasks;
}
