use Rattle.std.proofs.Common.{ap, arith}
use Rattle.std.specs.Prelude.{sum}
use Rattle.std.proofs.lemmas.List.Folds.{sum_by-replicate}
use Rattle.step_scheduler.proofs.workers.run_shared.Goals as goal

pub returns-then-not-starts-clause-counted : goal.returns-then-not-starts-clause-counted
returns-then-not-starts-clause-counted g c =
    let zeros = ap sum (c.in_ok-counts.ensures.items_if_clones_equal (λ y e. e)) in
    omega (arith, zeros, sum_by-replicate (λ x. x) c.args.workers 0)
