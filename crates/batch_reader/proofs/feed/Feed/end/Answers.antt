use Rattle.std.proofs.Common.{◌∙◌, ap, subst, sym}
use Rattle.std.proofs.lemmas.Result.{IfOk-weaker}
use Rattle.batch_reader.specs.Feeds.{FeedState, HasEnded}
use Rattle.batch_reader.proofs.FeedLemmas.{answers_batch}
use Rattle.batch_reader.proofs.feed.Feed.end.Goals as goal

pub returns-clause-batch : goal.returns-clause-batch
returns-clause-batch g c =
    let region = ap (λ (f : FeedState). f.lines.region) c.self.view_is ∙ c.end_open.ensures.region in
    IfOk-weaker c.finish.result _ _ (λ batch answers. λ bytes come.
    let ended = subst (λ (f : FeedState). HasEnded f.lines bytes) (sym c.self.view_is)
    (c.in_ok-end_open.ensures.ended bytes come) in
    answers_batch _ _ bytes batch _ region ended.batch (answers ended.come ended.stands)) c.finish.ensures.batch

pub returns-clause-few : goal.returns-clause-few
returns-clause-few g c =
    IfOk-weaker c.finish.result _ _ (λ batch few. λ bytes come.
    let ended = subst (λ (f : FeedState). HasEnded f.lines bytes) (sym c.self.view_is)
    (c.in_ok-end_open.ensures.ended bytes come) in
    few ended.come ended.stands) c.finish.ensures.few
