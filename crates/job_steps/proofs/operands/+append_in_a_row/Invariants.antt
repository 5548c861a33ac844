use Rattle.std.proofs.Common.{length}
use Rattle.job_steps.proofs.operands.+append_in_a_row.Given as goal

abbrev pub decreases-append_in_a_row : goal.decreases-append_in_a_row
decreases-append_in_a_row g l = length l.lists.now
