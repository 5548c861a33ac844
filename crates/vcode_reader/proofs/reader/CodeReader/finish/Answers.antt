use Rattle.std.proofs.Common.{arith, rules}
use Rattle.std.proofs.lemmas.Grind.{common_steps}
use Rattle.vcode_reader.proofs.Bodies.{of_outcome}
use Rattle.vcode_reader.proofs.Fed.{answer_ok, answer_err}
use Rattle.vcode_reader.proofs.Measures.{end_fits}
use Rattle.vcode_reader.proofs.reader.CodeReader.finish.Goals as goal

pub outcome-requires : goal.outcome-requires
outcome-requires g c = search (rules, end_fits)

pub new-requires-clause-proper_bodies : goal.new-requires-clause-proper_bodies
new-requires-clause-proper_bodies g c = (of_outcome _ _ _ _ _ c.self.invariant c.if-self.false c.in-Ok.ensures).1

pub new-requires-clause-few : goal.new-requires-clause-few
new-requires-clause-few g c = (of_outcome _ _ _ _ _ c.self.invariant c.if-self.false c.in-Ok.ensures).0

pub returns-in-Err-clause-answer : goal.returns-in-Err-clause-answer
returns-in-Err-clause-answer g c = grind (arith, common_steps, answer_err)

pub returns-in_ok-new-in-Ok-clause-answer : goal.returns-in_ok-new-in-Ok-clause-answer
returns-in_ok-new-in-Ok-clause-answer g c = λ bytes h. grind (arith, answer_ok c.args.self c.in-Ok.functions.items)
