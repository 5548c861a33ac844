use Rattle.std.proofs.Common.{◌+◌, ◌≤◌, length}
use Rattle.worked_texts.specs.declared.escape.TheConstants.{MOST_BYTES}
use Rattle.worked_texts.proofs.pieces.program_in_pieces.Given as goal

abbrev pub invariant-loop-rest : goal.invariant-loop-rest
invariant-loop-rest l = record {
  line : l.reader.scan.line + length l.rest ≤ MOST_BYTES + 5;
  size : l.reader.size + length l.rest ≤ MOST_BYTES;
}

abbrev pub decreases-loop-rest : goal.decreases-loop-rest
decreases-loop-rest l = length l.rest
