use Rattle.std.proofs.Common.{◌+◌, ◌∙◌, ap, length, refl, arith}
use Rattle.kind_list.proofs.ListLemmas.{length_piece, later_piece}
use Rattle.kind_list.proofs.list.KindList.append_range.Goals as goal

pub push_full-requires : goal.push_full-requires
push_full-requires g c =
    ap length c.chunk.ensures ∙ length_piece c.args.other.now (c.args.from + c.loop-place.place) 32 (omega arith)

pub loop-place-preserved : goal.loop-place-preserved
loop-place-preserved g c = record {
  within = omega arith;
  added = rw (c.in-Ok.ensures.pushed, c.chunk.ensures, c.loop-place.invariant.added)
      (later_piece c.args.self.now c.args.other.now c.args.from c.loop-place.place 32 _ refl);
}
