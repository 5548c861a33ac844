use Rattle.std.proofs.Common.{◌≤◌, ℕ, ℤ, List, length}
use Rattle.vcode_reader.proofs.Linking.{AreSetFrom}
use Rattle.vcode_reader.proofs.code_lines.set_targets.Given as goal

abbrev pub invariant-loop-place : goal.invariant-loop-place
invariant-loop-place g l = record {
  within : l.place ≤ length l.lines;
  done : (first : ℕ) (ls : List ℤ) (ns : List ℕ) → AreSetFrom l.place l.fn.lines l.lines l.waits first ls ns;
}

abbrev pub decreases-loop-place : goal.decreases-loop-place
decreases-loop-place g l = l.place
