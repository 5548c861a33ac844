use Rattle.std.proofs.Common.{ap, ◌∙◌}
use Rattle.job_machine.specs.Machines.{MachineState}
use Rattle.job_lanes.proofs.Adopted.{adoption_keeps}
use Rattle.job_lanes.proofs.lanes.adopt.Goals as goal

pub returns-clause-rule : goal.returns-clause-rule
returns-clause-rule g c =
    ap (λ (m : MachineState). m.rule) c.adopt.ensures.state
    ∙ (adoption_keeps c.adopt.result c.args.ended.job c.args.machine.now).rule

pub returns-clause-jobs : goal.returns-clause-jobs
returns-clause-jobs g c =
    ap (λ (m : MachineState). m.tasks) c.adopt.ensures.state
    ∙ (adoption_keeps c.adopt.result c.args.ended.job c.args.machine.now).tasks
