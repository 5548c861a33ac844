use Rattle.std.proofs.Common.{◌≡◌, ◌++◌, List, ℕ, length}
use Rattle.batch_reader.specs.Runs.{IsCodeText}
use Rattle.batch_reader.proofs.code_run.code_len.Given as goal

abbrev pub invariant-lines : goal.invariant-lines
invariant-lines l = (front : List ℕ) × (l.text ≡ front ++ l.rest) × IsCodeText front

abbrev pub decreases-lines : goal.decreases-lines
decreases-lines l = length l.rest
