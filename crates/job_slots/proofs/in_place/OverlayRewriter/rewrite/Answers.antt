-- What a DPERMUTE means, unfolded.
use Rattle.std.proofs.Common.{arith, rules}
use Rattle.std.proofs.lemmas.Grind.{common_steps}
use Rattle.vcode_base.specs.Meaning.{shape, need, value_fault, result_of, second_result_of}
use Rattle.job_slots.proofs.in_place.OverlayRewriter.rewrite.Goals as goal

pub overlay-requires : goal.overlay-requires
unfolding shape need
overlay-requires c = first_of (search rules, grind (arith, common_steps))

pub returns-in-Ok : goal.returns-in-Ok
unfolding value_fault result_of second_result_of
returns-in-Ok c = first_of (search rules, grind (arith, common_steps))

pub returns-in-Err : goal.returns-in-Err
unfolding value_fault
returns-in-Err c = first_of (search rules, grind (arith, common_steps))
