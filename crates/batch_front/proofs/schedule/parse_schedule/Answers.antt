-- The pieces between commas are the schedule's items. It is refused if one is no item, or if there are too many.
use Rattle.std.proofs.Common.{◌∙◌, sym, ap, arith, length, lit<, map}
use Rattle.std.specs.Prelude.{◌==◌}
use Rattle.std.proofs.lemmas.Grind.{common_steps}
use Rattle.std.specs.List.{slice_split}
use Rattle.std.proofs.lemmas.List.{map-append}
use Rattle.std.proofs.lemmas.Iterator.Consumers.{YieldsList-at, YieldsList-end, YieldsList-turn}
use Rattle.std.proofs.lemmas.Iterator.Splits.{YieldsList-from_str_split}
use Rattle.batch_front.specs.Schedules.{item_of, schedule_of}
use Rattle.batch_front.proofs.ScheduleLemmas.{is_schedule, items_with, no_items, no_schedule, too_many}
use Rattle.batch_front.proofs.schedule.parse_schedule.Goals as goal

pub returns-then-len-eq-MOST_SCHEDULE_ITEMS-clause-bad : goal.returns-then-len-eq-MOST_SCHEDULE_ITEMS-clause-bad
unfolding schedule_of
returns-then-len-eq-MOST_SCHEDULE_ITEMS-clause-bad g c =
    let turn = YieldsList-turn (YieldsList-at c.into_iter-piece-iterator.ensures.into_iter_gives
    (YieldsList-from_str_split 44 c.args.text.now (lit< tt) c.split-piece-items.ensures.text
    c.split-piece-items.ensures.has_more c.split-piece-items.ensures.pattern))
    c.loop-piece.yielded c.loop-piece.piece-iterator c.loop-piece.yielded_by c.next.result c.next.new.self
    c.in-Some.piece c.in-Some.is c.next.ensures.steps in
    let inv = c.loop-piece.invariant in
    λ _. too_many (slice_split (λ b. b == 44) c.args.text.now)
    (omega (arith, turn.0, inv.count, c.if-len-eq-MOST_SCHEDULE_ITEMS.true, c.len.ensures))

pub returns-in_default-clause-bad : goal.returns-in_default-clause-bad
unfolding schedule_of
returns-in_default-clause-bad g c =
    let turn = YieldsList-turn (YieldsList-at c.into_iter-piece-iterator.ensures.into_iter_gives
    (YieldsList-from_str_split 44 c.args.text.now (lit< tt) c.split-piece-items.ensures.text
    c.split-piece-items.ensures.has_more c.split-piece-items.ensures.pattern))
    c.loop-piece.yielded c.loop-piece.piece-iterator c.loop-piece.yielded_by c.next.result c.next.new.self
    c.in-Some.piece c.in-Some.is c.next.ensures.steps in
    λ _. no_schedule (slice_split (λ b. b == 44) c.args.text.now)
    (no_items (slice_split (λ b. b == 44) c.args.text.now) (length c.loop-piece.yielded) c.in-Some.piece.now turn.0
    turn.1 (ap item_of (sym c.as_bytes.ensures.value) ∙ sym c.item_of.ensures ∙ c.in_default.is))

pub loop-piece-preserved : goal.loop-piece-preserved
loop-piece-preserved g c =
    let inv = c.loop-piece.invariant in
    record {
      callable = tt;
      finite = tt;
      items = rw (map-append, c.in_ok-push.ensures.items)
          (items_with (map (λ p. p.now) c.loop-piece.yielded) c.in-Some.piece.now c.loop-piece.items.items
          c.in-Some-item_of.item inv.items
          (ap item_of (sym c.as_bytes.ensures.value) ∙ sym c.item_of.ensures ∙ c.in-Some-item_of.is));
      count = grind (arith, common_steps, inv.count, c.in_ok-push.ensures.len);
      few = omega (arith, inv.few, c.in_ok-push.ensures.len, c.len.ensures, c.if-len-eq-MOST_SCHEDULE_ITEMS.false);
    }

pub returns-clause-items : goal.returns-clause-items
unfolding schedule_of
returns-clause-items g c =
    let end = YieldsList-end (YieldsList-at c.into_iter-piece-iterator.ensures.into_iter_gives
    (YieldsList-from_str_split 44 c.args.text.now (lit< tt) c.split-piece-items.ensures.text
    c.split-piece-items.ensures.has_more c.split-piece-items.ensures.pattern))
    c.loop-piece.yielded c.loop-piece.piece-iterator c.loop-piece.yielded_by c.next.result c.next.new.self c.in-None.is
    c.next.ensures.steps in
    let inv = c.loop-piece.invariant in
    is_schedule (slice_split (λ b. b == 44) c.args.text.now) c.loop-piece.items.items
    (omega (arith, end.1, inv.count, inv.few)) (rw end.0 at inv.items)
