use Rattle.job_steps.proofs.Standing.{line_in, line_passed, line_some}
use Rattle.job_steps.proofs.frame.Frame.line.Goals as goal

pub unwrap-requires : goal.unwrap-requires
unwrap-requires g c = line_some c.args.function.now c.args.self c.item.result c.requires c.item.ensures

pub returns-clause-line : goal.returns-clause-line
returns-clause-line g c =
    line_in c.args.function.now c.args.self c.item.result c.requires c.item.ensures c.unwrap.result c.unwrap.ensures

pub returns-clause-passed : goal.returns-clause-passed
returns-clause-passed g c =
    line_passed c.args.function.now c.args.self c.item.result c.requires c.item.ensures c.unwrap.result c.unwrap.ensures
