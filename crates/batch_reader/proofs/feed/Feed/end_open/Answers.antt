use Rattle.std.proofs.Common.{◌≡◌, ◌<◌, vec_len, length, ap, arith}
use Rattle.batch_reader.proofs.FeedLemmas.{ended_with_line, is_some}
use Rattle.batch_reader.proofs.feed.Feed.end_open.Goals as goal

pub returns-clause-ended : goal.returns-clause-ended
returns-clause-ended g c =
    let len : length c.self.inside.held.items ≡ vec_len c.self.inside.held = omega arith in
    let some : 0 < length c.as_slice.result.now =
    omega (arith, ap length c.as_slice.ensures.value, is_some c.self.inside.held.items _ len c.if-is_empty.ensures) in
    rw (← c.self.view_is) (ended_with_line c.take-taken.result _ c.as_slice.result.now c.take-taken.new.self
    c.self.invariant.feed c.as_slice.ensures.value some c.take-taken.ensures.taken c.take-taken.ensures.left)
