use Rattle.kind_finder.specs.Texts.{AreNamed}
use Rattle.kind_finder.proofs.found.are_of.Given as goal

abbrev pub invariant-loop-place : goal.invariant-loop-place
invariant-loop-place g l = AreNamed l.place l.signatures l.functions
