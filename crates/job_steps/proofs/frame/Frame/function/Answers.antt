use Rattle.job_steps.proofs.Standing.{stands_in}
use Rattle.job_steps.proofs.frame.Frame.function.Goals as goal

pub returns-clause-function : goal.returns-clause-function
returns-clause-function g c =
    (stands_in c.args.program.now.functions c.functions.result.now c.args.self c.requires.0
    c.functions.ensures.functions c.requires.1 c.index-functions-self.result c.index-functions-self.is).found
