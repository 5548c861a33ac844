use Rattle.std.proofs.Common.{refl, rules}
use Rattle.batch_front.proofs.PageLemmas.{puts_at_once, puts_kept}
use Rattle.batch_front.proofs.page.put_first.Goals as goal

pub returns-then-is_err : goal.returns-then-is_err
returns-then-is_err g c =
    puts_at_once g.W.Write.contents c.args.page.now _ c.args.writer.now c.send.new.writer c.args.text.now c.send.ensures
    c.requires (search rules) refl

pub returns-else-is_err : goal.returns-else-is_err
returns-else-is_err g c =
    puts_kept g.W.Write.contents c.args.page.now _ c.args.writer.now c.args.text.now (search rules) refl
