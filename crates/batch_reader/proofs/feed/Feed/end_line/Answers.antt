use Rattle.std.proofs.Common.{◌≡◌, ◌++◌, ◌∙◌, ap, vec_len, arith, sym, refl}
use Rattle.batch_reader.proofs.FeedLemmas.{is_nil, line_has_come}
use Rattle.batch_reader.proofs.feed.Feed.end_line.Goals as goal

pub returns-then-is_empty-clause-fed : goal.returns-then-is_empty-clause-fed
returns-then-is_empty-clause-fed g c =
    let held = c.self.inside.held.items in
    let none = is_nil held (vec_len c.self.inside.held) (omega arith) c.if-is_empty.ensures in
    rw (← c.self.view_is) (line_has_come c.take.result _ c.args.rest.now c.args.rest.now held c.self.inside.lines
    c.take.new.self c.self.invariant.feed c.requires (ap (λ t. t ++ c.args.rest.now) (sym none)) none refl
    c.take.ensures.taken c.take.ensures.number c.take.ensures.left)

pub returns-clause-fed : goal.returns-clause-fed
returns-clause-fed g c =
    rw (← c.self.view_is) (line_has_come c.take-taken.result _ c.as_slice.result.now c.args.rest.now
    c.clear.new.self.items c.keep.new.lines c.take-taken.new.self c.self.invariant.feed c.requires
    (c.as_slice.ensures.value ∙ c.in_ok-keep.ensures.kept) c.clear.ensures.items c.in_ok-keep.ensures.lines
    c.take-taken.ensures.taken c.take-taken.ensures.number c.take-taken.ensures.left)
