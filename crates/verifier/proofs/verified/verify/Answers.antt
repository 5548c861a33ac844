use Rattle.std.proofs.Common.{refl}
use Rattle.verifier.proofs.Law.{has_no_fault}
use Rattle.verifier.proofs.verified.verify.Goals as goal

pub types_of-requires : goal.types_of-requires
types_of-requires g c = (has_no_fault c.args.signatures.now c.args.program c.in-Ok.ensures).well_kinded

pub results_of_main-requires : goal.results_of_main-requires
results_of_main-requires g c = (has_no_fault c.args.signatures.now c.args.program c.in-Ok.ensures).main

pub invariant_of-result : goal.invariant_of-result
invariant_of-result g c = (
  c.args.signatures.now,
  record {
    well_kinded = (has_no_fault c.args.signatures.now c.args.program c.in-Ok.ensures).well_kinded;
    arrows = c.in_ok-types-in-Ok.ensures;
    results = c.in_ok-results-in-Ok.ensures;
  },
)

pub returns-in_ok-results-in-Ok : goal.returns-in_ok-results-in-Ok
returns-in_ok-results-in-Ok g c = (
  record {
    well_kinded = (has_no_fault c.args.signatures.now c.args.program c.in-Ok.ensures).well_kinded;
    arrows = c.in_ok-types-in-Ok.ensures;
    results = c.in_ok-results-in-Ok.ensures;
  },
  refl,
)
