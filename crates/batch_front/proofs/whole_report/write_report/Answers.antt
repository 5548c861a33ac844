use Rattle.std.proofs.Common.{◌≡◌, rules, Err}
use Rattle.batch_front.specs.LoadedBatches.{loaded_text}
use Rattle.batch_front.proofs.PageLemmas.{written_not, written_with, writes}
use Rattle.batch_front.proofs.whole_report.write_report.Goals as goal

pub returns-clause-written : goal.returns-clause-written
returns-clause-written g c =
    written_with _ _ _ _ _ c.finish.result _ _ c.in_ok-finish.was
    (writes g.W.Write.contents c.args.spent c.new-page.result c.put_batch.new.page c.args.writer.now
    c.put_batch.new.writer c.finish.new.writer (loaded_text c.args.batch.now) c.finish.result c.new-page.ensures.bytes
    c.new-page.ensures.spent c.requires.fresh c.requires.spent c.put_batch.ensures c.finish.ensures)

pub returns-in_err-finish-clause-written : goal.returns-in_err-finish-clause-written
returns-in_err-finish-clause-written g c =
    let fault : c.from_residual.result ≡ Err c.in_err-finish.field-0.0 = search rules in
    rw fault
    (written_not _ _ _ _ _ c.finish.result c.in_err-finish.field-0.0 c.in_err-finish.was
    (writes g.W.Write.contents c.args.spent c.new-page.result c.put_batch.new.page c.args.writer.now
    c.put_batch.new.writer c.finish.new.writer (loaded_text c.args.batch.now) c.finish.result c.new-page.ensures.bytes
    c.new-page.ensures.spent c.requires.fresh c.requires.spent c.put_batch.ensures c.finish.ensures))
