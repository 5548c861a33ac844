use Rattle.std.proofs.Common.{arith}
use Rattle.std.proofs.lemmas.Bool.Decides.{Decides-eqb}
use Rattle.std.proofs.lemmas.List.Prefix.{front_rest}
use Rattle.std.proofs.lemmas.Slice.Eq.{strip_prefix_is}
use Rattle.report_splitter.proofs.ending.after.Goals as goal

pub returns-clause-found : goal.returns-clause-found
returns-clause-found c =
    grind (arith, strip_prefix_is Decides-eqb c.args.text.now c.args.front.now c.strip_prefix.result, front_rest)

pub returns-clause-front : goal.returns-clause-front
returns-clause-front c =
    grind (arith, strip_prefix_is Decides-eqb c.args.text.now c.args.front.now c.strip_prefix.result)
