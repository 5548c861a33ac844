use Rattle.std.proofs.Common.{◌≡◌, ◌*◌, ◌≤◌, take, sum_by}
use Rattle.vcode_base.specs.declared.limits.TheConstants.{MOST_CELLS}
use Rattle.job_steps.specs.States.{JobValue}
use Rattle.job_machine.proofs.setting.all_cells.Given as goal

abbrev pub invariant-loop-job : goal.invariant-loop-job
invariant-loop-job g l = record {
  cells : l.cells ≡ sum_by (λ (job : JobValue). job.limits.cells) (take l.job-index l.jobs);
  within : l.cells ≤ l.job-index * MOST_CELLS;
}
