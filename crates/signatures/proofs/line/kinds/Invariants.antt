use Rattle.std.proofs.Common.{◌≡◌, length, []}
use Rattle.signatures.specs.Reading.{kinds_from}
use Rattle.signatures.proofs.line.kinds.Given as goal

abbrev pub invariant-loop-word : goal.invariant-loop-word
invariant-loop-word g l = kinds_from l.kinds.items l.words ≡ kinds_from [] l.initial.words

abbrev pub decreases-loop-word : goal.decreases-loop-word
decreases-loop-word g l = length l.words
