use Rattle.std.proofs.Common.{◌≡◌, arith, rules}
use Rattle.vcode_base.specs.declared.op.Op.TheVariants.{Segmented as SegmentedOp}
use Rattle.vcode_base.specs.declared.op.Segmented.TheVariants.{DefaultPermute}
use Rattle.job_slots.proofs.InPlace.{with_long_default}
use Rattle.job_slots.proofs.in_place.compute.Goals as goal

pub compute_over-requires-clause-can : goal.compute_over-requires-clause-can
compute_over-requires-clause-can g c =
    let is : c.args.placement.op ≡ SegmentedOp (DefaultPermute c.in-Segmented-DefaultPermute.scalar) = search rules in
    with_long_default _ _ _ _ _ _ is (omega (arith, c.in-len5.len_at_least)) c.default-item.is c.requires.can
