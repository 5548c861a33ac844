use Rattle.batch_reader.proofs.FeedLemmas.{nothing_has_come}
use Rattle.batch_reader.proofs.feed.Feed.new.Goals as goal

pub returns-clause-come : goal.returns-clause-come
returns-clause-come g c =
    nothing_has_come c.args.region _ c.in_ok-lines.lines c.new-2.ensures.items c.in_ok-lines.ensures.first
