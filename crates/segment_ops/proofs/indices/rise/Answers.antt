use Rattle.std.proofs.Common.{arith, rules}
use Rattle.std.proofs.lemmas.Int.{ints}
use Rattle.segment_ops.proofs.PlaceLemmas.{once_if}
use Rattle.segment_ops.proofs.indices.rise.Goals as goal

pub returns-clause-once : goal.returns-clause-once
returns-clause-once c below =
    let rises = c.loop-index.invariant (search rules) in
    once_if c.args.indices.now (λ j m before h same. grind (arith, ints, rises.1 j, rises.2 j m))
