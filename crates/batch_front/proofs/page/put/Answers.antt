use Rattle.std.proofs.Common.{refl, rules}
use Rattle.batch_front.proofs.PageLemmas.{puts_kept, puts_then, puts_unchanged}
use Rattle.batch_front.proofs.page.put.Goals as goal

pub returns-then-is_err : goal.returns-then-is_err
returns-then-is_err g c =
    puts_then
    (puts_then (puts_unchanged g.W.Write.contents c.args.page.now _ c.args.writer.now
    (search rules) refl) c.empty.ensures.puts)
    c.put_first.ensures

pub returns-else-is_err : goal.returns-else-is_err
returns-else-is_err g c =
    puts_kept g.W.Write.contents c.args.page.now _ c.args.writer.now c.args.text.now (search rules) refl
