use Rattle.std.proofs.Common.{◌≤◌, ◌+◌, ℕ, length}
use Rattle.report_splitter.specs.Heads.{AllFit, IsFirstOther, heads}
use Rattle.report_splitter.proofs.heads.check_heads.Given as goal

abbrev pub invariant-loop-line : goal.invariant-loop-line
invariant-loop-line g l = record {
  fit : AllFit l.jobs l.index (heads l.rest) → AllFit l.jobs 0 (heads l.fn.report);
  other : (at : ℕ) → IsFirstOther l.jobs l.index (heads l.rest) at → IsFirstOther l.jobs 0 (heads l.fn.report) at;
  near : l.index + length l.rest ≤ length l.fn.report;
}

abbrev pub decreases-loop-line : goal.decreases-loop-line
decreases-loop-line g l = length l.rest
