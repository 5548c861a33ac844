use Rattle.std.proofs.Common.{◌≡◌, arith, vec_len}
use Rattle.batch_reader.proofs.FeedLemmas.{is_nil, code_has_come}
use Rattle.batch_reader.proofs.feed.Feed.feed_code.Goals as goal

pub returns-clause-fed : goal.returns-clause-fed
returns-clause-fed g c =
    let held = c.self.inside.held.items in
    let none = is_nil held (vec_len c.self.inside.held) (omega arith) c.if-not-is_empty.ensures in
    rw (← c.self.view_is) (
      c.code_run.result.0.text.now,
      c.code_run.ensures.parts,
      λ before come. code_has_come _ c.code_run.result.0.text.now before c.take_code.new.self none
          c.in_ok-take_code.ensures.taken come,
    )
