use Rattle.std.proofs.Common.{◌∙◌, arith, ap}
use Rattle.vcode_reader.proofs.Callees.{held_entry, callees_more}
use Rattle.vcode_reader.proofs.link.callees_of.Goals as goal

pub loop-function-preserved : goal.loop-function-preserved
loop-function-preserved g c =
    callees_more c.args.functions.now _ _ _ _ _ (omega arith) c.function-item.is c.loop-function.invariant
    (c.from_vec.ensures ∙ (c.in_ok-callees.ensures ∙ ap (λ z. held_entry z c.function-item.result)
    c.in_ok-linker.ensures)) c.in_ok-push.ensures.items
