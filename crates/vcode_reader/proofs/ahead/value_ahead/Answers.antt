use Rattle.vcode_reader.proofs.Numerals.{digits_found}
use Rattle.vcode_reader.proofs.ahead.value_ahead.Goals as goal

pub returns : goal.returns
returns c =
    digits_found 18446744073709551616 c.in_ok-value.value c.in_ok-value.len c.args.text.now c.in_ok-value.ensures
    c.if-len-text.false c.if-text-len-gt32.false
