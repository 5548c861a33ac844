use Rattle.batch_filler.proofs.FillLemmas.{filled_end, filled_next}
use Rattle.batch_filler.proofs.fill.fill_batch.Goals as goal

pub loop-line-preserved : goal.loop-line-preserved
loop-line-preserved g c = rw (
  c.in_ok-extend_from_slice-2.ensures.items,
  c.in_ok-extend_from_slice.ensures.items,
  c.text_before.ensures,
  c.texts_after-left.ensures,
) (filled_next _ _ _ _ _ _ _ _ c.in-Some.ensures.0 c.after-next.ensures c.loop-line.invariant)

pub returns : goal.returns
returns g c = filled_end _ _ _ _ _ c.in_default.ensures c.loop-line.invariant
