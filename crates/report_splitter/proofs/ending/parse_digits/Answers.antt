use Rattle.std.specs.Prelude.{decimal}
use Rattle.std.proofs.lemmas.Fmt.{IsAscii-decimal}
use Rattle.std.proofs.lemmas.Str.{IsUtf8-from_ascii}
use Rattle.report_splitter.proofs.ending.parse_digits.Goals as goal

pub returns-in-Err : goal.returns-in-Err
returns-in-Err c number small is =
    absurd (c.in-Err.ensures.cases.0 (rw is (IsUtf8-from_ascii (decimal number) (IsAscii-decimal number small))))
