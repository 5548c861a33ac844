-- What the second rule changes in how a job ends.
use Rattle.std.specs.Prelude.{◌≡◌, ◌≢◌, ℕ, ◌≤◌}
use Rattle.vcode_base.specs.declared.fault.MemoryFault.TheVariants.{Words}
use Rattle.vcode_base.specs.declared.outcome.Outcome.TheVariants.{Memory}
use Rattle.vcode_base.specs.declared.rule.Rule.TheVariants.{First, Second}
use Rattle.job_steps.specs.Reached.{IsVerifiedBySome}
use Rattle.job_steps.specs.Runs.{outcome, executed_count, peak}
use Rattle.job_steps.specs.States.{JobValue, Task, ruled}

-- it ends alike, after as many instructions, and with no greater peak
pub record EndsAlike (old new : Task) : Type 0 where
  pub outcome_is : outcome new ≡ outcome old
  pub executed_is : executed_count new ≡ executed_count old
  pub peak_within : peak new ≤ peak old

-- a job that has words enough under the first rule ends alike under the second
abbrev pub SecondRuleEndsAlike : Type 0
SecondRuleEndsAlike =
    (job : JobValue) → ((line : ℕ) → outcome (ruled First job) ≢ Memory Words line) →
    EndsAlike (ruled First job) (ruled Second job)

-- whether it has or not, a verified job executes no fewer instructions
abbrev pub SecondRuleGoesAsFar : Type 0
SecondRuleGoesAsFar =
    (job : JobValue) → IsVerifiedBySome job.verified →
    executed_count (ruled First job) ≤ executed_count (ruled Second job)
