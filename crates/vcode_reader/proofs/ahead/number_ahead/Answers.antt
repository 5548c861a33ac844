use Rattle.std.proofs.Common.{◌∙◌, rules, sym, to_z-of_z, w64, FitsSigned}
use Rattle.vcode_reader.proofs.Numerals.{negative_found}
use Rattle.vcode_reader.proofs.Pieces.{some_bytes}
use Rattle.vcode_reader.proofs.ahead.number_ahead.Goals as goal

pub returns-then-text-eq45 : goal.returns-then-text-eq45
returns-then-text-eq45 c =
    let fits : FitsSigned w64 c.in_ok-number.number = search rules in
    rw (to_z-of_z fits) (negative_found c.args.text.now c.split_at.result.1.now _ _ _
    (some_bytes c.args.text.now (sym c.is_empty.ensures ∙ c.if-is_empty.false)) c.if-text-eq45.true
    c.split_at.ensures.back c.in_ok-value.ensures (sym c.in_ok-number.ensures))
