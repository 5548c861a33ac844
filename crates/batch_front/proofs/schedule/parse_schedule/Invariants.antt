use Rattle.std.proofs.Common.{◌≡◌, ◌≤◌, Some, length, map}
use Rattle.std.specs.Vec.{vec_len}
use Rattle.vcode_base.specs.declared.limits.TheConstants.{MOST_SCHEDULE_ITEMS}
use Rattle.batch_front.specs.Schedules.{items_of}
use Rattle.batch_front.proofs.schedule.parse_schedule.Given as goal

abbrev pub invariant-loop-piece : goal.invariant-loop-piece
invariant-loop-piece g l = record {
  callable : (goal.iterator-loop-piece g).can_next l.piece-iterator;
  finite : (goal.iterator-loop-piece g).is_finite l.piece-iterator;
  items : items_of (map (λ p. p.now) l.yielded) ≡ Some l.items.items;
  count : vec_len l.items ≡ length l.yielded;
  few : vec_len l.items ≤ MOST_SCHEDULE_ITEMS;
}
