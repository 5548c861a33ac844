use Rattle.std.proofs.Common.{rules, ◌≡◌, true, false}
use Rattle.batch_front.proofs.PageLemmas.{ends_at_fault, ends_flushed, not_working, working}
use Rattle.batch_front.proofs.page.finish.Goals as goal

pub returns-then-not-works : goal.returns-then-not-works
returns-then-not-works g c =
    let off : c.works.result ≡ false = search rules in
    ends_at_fault g.W.Write.contents c.args.page.now c.empty.new.page c.args.writer.now c.empty.new.writer
    c.empty.ensures.puts (not_working c.works.result c.works.ensures off)

pub returns : goal.returns
returns g c =
    let on : c.works.result ≡ true = search rules in
    let flushed = c.flush.ensures in
    ends_flushed g.W.Write.contents c.args.page.now c.empty.new.page c.args.writer.now c.empty.new.writer
    c.flush.new.writer c.flush.result c.empty.ensures.puts c.empty.ensures.bytes
    (working c.works.result c.works.ensures on) flushed.nothing_written flushed.flushed flushed.writer_worked
    flushed.write_fault flushed.write_alone
