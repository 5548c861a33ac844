-- What an adoption leaves as it is.
use Rattle.std.proofs.Common.{◌≡◌, ℕ, Bool, true, false, refl}
use Rattle.job_machine.specs.Lanes.{after_adoption}
use Rattle.job_machine.specs.Machines.{MachineState}

pub record KeepsJobs (old new : MachineState) : Type 0 where
  pub rule : new.rule ≡ old.rule
  pub tasks : new.tasks ≡ old.tasks

pub adoption_keeps : (adopts : Bool) (job : ℕ) (m : MachineState) → KeepsJobs m (after_adoption adopts job m)
adoption_keeps true job m = record { rule = refl; tasks = refl }
adoption_keeps false job m = record { rule = refl; tasks = refl }
