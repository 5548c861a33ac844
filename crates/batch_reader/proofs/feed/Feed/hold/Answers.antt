use Rattle.std.proofs.Common.{arith, sym, subst, ℕ}
use Rattle.batch_reader.specs.Feeds.{IsOpenLine}
use Rattle.batch_reader.proofs.FeedLemmas.{open_kept}
use Rattle.batch_reader.proofs.feed.Feed.hold.Goals as goal

pub invariant_of-self : goal.invariant_of-self
invariant_of-self g c =
    subst (λ (n : ℕ). IsOpenLine c.keep.new.held.items n) (sym c.keep.ensures.left)
    (open_kept c.keep.result c.self.inside.held.items c.args.more.now _ c.self.inside.lines.left c.self.invariant.feed
    c.requires (omega arith) c.keep.ensures.kept c.keep.ensures.unchanged)
