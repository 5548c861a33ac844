use Rattle.std.proofs.Common.{◌≡◌, map, take}
use Rattle.vcode_reader.proofs.Callees.{held_entry}
use Rattle.vcode_reader.proofs.link.callees_of.Given as goal

abbrev pub invariant-loop-function : goal.invariant-loop-function
invariant-loop-function g l = l.found.items ≡ map (held_entry l.functions) (take l.function-index l.functions)
