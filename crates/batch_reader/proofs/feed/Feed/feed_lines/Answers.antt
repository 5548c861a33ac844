use Rattle.std.proofs.Common.{◌∙◌, ◌++◌, append_assoc, ap, subst, sym, List, ℕ}
use Rattle.batch_reader.specs.Feeds.{HasCome}
use Rattle.batch_reader.proofs.feed.Feed.feed_lines.Goals as goal

pub lines-preserved : goal.lines-preserved
lines-preserved g c =
    let known = c.lines.invariant.come in
    let line = c.in-Some.line.now in
    let code = c.in_ok-rest.ensures.fed in
    let front = known.0 ++ line in record {
      come = (
        front ++ code.0,
        known.1
            ∙ (ap (λ r. known.0 ++ r) c.in-Some.ensures.1
            ∙ (sym (append_assoc known.0 line c.in-Some.behind.now)
            ∙ (ap (λ r. front ++ r) code.1 ∙ sym (append_assoc front code.0 _)))),
        λ before come. subst (λ (t : List ℕ). HasCome c.feed_code.new.self t) (append_assoc before front code.0)
            (code.2 (before ++ front) (subst (λ (t : List ℕ). HasCome c.end_line.new.self t) (append_assoc before
            known.0 line) (c.in_ok-end_line.ensures.fed (before ++ known.0) (known.2 before come)))),
      );
      region = c.in_ok-rest.ensures.region ∙ (c.in_ok-end_line.ensures.region ∙ c.lines.invariant.region);
    }
