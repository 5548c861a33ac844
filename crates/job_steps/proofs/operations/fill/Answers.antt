-- What each arm writes is what its instruction means.
use Rattle.std.proofs.Common.{arith, rules}
use Rattle.std.proofs.lemmas.Grind.{common_steps}
use Rattle.vcode_base.specs.Meaning.{need, value_fault, result_of, second_result_of}
use Rattle.job_steps.proofs.operations.fill.Goals as goal

pub returns-in-Const : goal.returns-in-Const
unfolding need value_fault result_of second_result_of
returns-in-Const c = grind (arith, common_steps)

pub returns-in-Elementwise : goal.returns-in-Elementwise
unfolding need value_fault result_of second_result_of
returns-in-Elementwise c = grind (arith, common_steps)

pub returns-in-Segmented : goal.returns-in-Segmented
unfolding need value_fault result_of second_result_of
returns-in-Segmented c = search rules

pub returns-in-If : goal.returns-in-If
unfolding need value_fault result_of second_result_of
returns-in-If c = grind (arith, common_steps)
