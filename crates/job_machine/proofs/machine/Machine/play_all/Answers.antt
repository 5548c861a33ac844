use Rattle.std.proofs.Common.{arith}
use Rattle.std.proofs.lemmas.List.{take_all}
use Rattle.job_machine.proofs.Replaying.{played_next, at_ok}
use Rattle.job_machine.proofs.machine.Machine.play_all.Goals as goal

pub loop-place-preserved : goal.loop-place-preserved
loop-place-preserved g c = (
  played_next _ _ _ c.args.events.now c.loop-place.place _ _ (omega arith) c.loop-place-test.true
      c.loop-place.invariant.0 (at_ok c.play.result c.if-is_err.ensures.value c.play.ensures.ok),
  c.play.ensures.fit,
)

pub returns-clause-ok : goal.returns-clause-ok
returns-clause-ok g c = grind (arith, take_all)
