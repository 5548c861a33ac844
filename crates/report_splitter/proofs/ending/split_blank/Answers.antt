use Rattle.std.proofs.Common.{Some, arith}
use Rattle.std.proofs.lemmas.Option.{none-some}
use Rattle.report_splitter.proofs.EntryLemmas.{first_at, parts_at}
use Rattle.report_splitter.proofs.ending.split_blank.Goals as goal

pub returns-in-Some-clause-blank : goal.returns-in-Some-clause-blank
returns-in-Some-clause-blank c front rest other is =
    let first = first_at 32 front rest _ (Some c.in-Some.blank) other is c.in-Some.ensures in
    parts_at 32 front rest _ _ (grind arith) is

pub returns-in-None-clause-blank : goal.returns-in-None-clause-blank
returns-in-None-clause-blank c front rest other is = grind (arith, none-some, first_at)
