use Rattle.std.proofs.Common.{length, sym, ap, arith}
use Rattle.vcode_base.specs.declared.limits.Limits.{Limits}
use Rattle.job_steps.specs.States.{ruled}
use Rattle.job_slots.proofs.InPlace.{is_placeable}
use Rattle.job_slots.proofs.in_place.placement_of.Goals as goal

pub returns : goal.returns
returns g c =
    let ready = c.args.ready in
    let is = c.requires.ready.1 in
    is_placeable c.steps_can_begin.ensures c.held_is_counted.ensures c.args.turn.number c.args.blocks.now
    (ruled c.args.turn.rule c.args.job.now) c.args.track.now c.requires.running c.requires.verified ready.op _ is.next
    c.requires.no_list c.used-used.ensures.tidy ready.needs.first ready.needs.second is.kinds
    (is.can_ask c.args.job.now.limits.words (omega arith)).can.shaped (omega (arith, ap length c.result_kinds.ensures))
    (sym is.lengths) (omega (arith, ap (λ (l : Limits). l.words) c.limits.ensures))
