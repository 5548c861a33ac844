use Rattle.std.proofs.Common.{◌≡◌, take, map}
use Rattle.std.specs.Vec.{vec_capacity, vec_len}
use Rattle.vcode_reader.specs.Programs.{held_callee}
use Rattle.vcode_reader.specs.Trees.{lines_of}
use Rattle.vcode_reader.proofs.link.Linker.callees.Given as goal

abbrev pub invariant-loop-place : goal.invariant-loop-place
invariant-loop-place g l = record {
  count : vec_len l.found ≡ l.place;
  room : vec_capacity l.found ≡ l.count;
  found : l.found.items ≡ map (held_callee l.self) (take l.place (lines_of l.function));
}
