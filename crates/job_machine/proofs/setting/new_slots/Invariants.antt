use Rattle.std.proofs.Common.{◌≡◌, ℕ, length, slice_get, Some}
use Rattle.job_steps.specs.States.{JobValue}
use Rattle.job_slots.specs.Slots.{SlotState, IsNewSlot}
use Rattle.job_machine.proofs.setting.new_slots.Given as goal

abbrev pub invariant-loop-job : goal.invariant-loop-job
invariant-loop-job g l = record {
  count : length l.slots.items ≡ l.job-index;
  new :
      (place : ℕ) (job : JobValue) (slot : SlotState) → slice_get l.jobs place ≡ Some job →
      slice_get l.slots.items place ≡ Some slot → IsNewSlot job slot;
}
