use Rattle.std.proofs.Common.{arith}
use Rattle.vcode_reader.specs.Trees.{lines_of}
use Rattle.vcode_reader.proofs.Callees.{callee_more}
use Rattle.vcode_reader.proofs.link.Linker.callees.Goals as goal

pub loop-place-preserved-in_default : goal.loop-place-preserved-in_default
loop-place-preserved-in_default g c = record {
  count = omega arith;
  room = omega arith;
  found =
      callee_more c.args.self.now (lines_of c.args.function.now) _ _ _ _ _
      (omega (arith, c.line_count-count.ensures)) c.in_default.ensures c.past-past.ensures c.loop-place.invariant.found
      c.push_reserved.ensures.items;
}

pub loop-place-preserved : goal.loop-place-preserved
loop-place-preserved g c = record {
  count = omega arith;
  room = omega arith;
  found =
      callee_more c.args.self.now (lines_of c.args.function.now) _ _ _ _ _
      (omega (arith, c.line_count-count.ensures)) c.in-Some.ensures c.place.ensures c.loop-place.invariant.found
      c.push_reserved-in-loop-place.ensures.items;
}
