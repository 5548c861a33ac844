use Rattle.std.proofs.Common.{arith}
use Rattle.std.proofs.lemmas.Bool.Decides.{Decides-eqb}
use Rattle.std.proofs.lemmas.Slice.Eq.{starts_is}
use Rattle.report_splitter.proofs.front.head_fault.Goals as goal

pub returns-then-starts_with : goal.returns-then-starts_with
returns-then-starts_with c =
    grind (arith, starts_is Decides-eqb c.args.head.now c.args.report.now c.starts_with.result)

pub returns-else-starts_with : goal.returns-else-starts_with
returns-else-starts_with c =
    let starts = starts_is Decides-eqb c.args.head.now c.args.report.now c.starts_with.result in
    grind (arith, starts c.starts_with.ensures.value)
