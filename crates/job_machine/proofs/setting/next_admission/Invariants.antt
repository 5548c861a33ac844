use Rattle.std.proofs.Common.{◌≡◌}
use Rattle.vcode_base.specs.declared.rule.Rule.{Rule}
use Rattle.job_machine.specs.Admissions.{next_by}
use Rattle.job_machine.proofs.Admissions.{rest_at}
use Rattle.job_machine.proofs.setting.next_admission.Given as goal

abbrev pub invariant-loop-place : goal.invariant-loop-place
invariant-loop-place g l =
    (rule : Rule) → next_by rule l.blocks l.jobs l.slots l.passes ≡ rest_at rule l.blocks l.jobs l.slots l.passes
    l.waiting l.place
