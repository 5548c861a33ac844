-- A batch whose jobs wait, and the same batch once they have run out.
use Rattle.std.proofs.Common.{arith, ◌≡◌, List}
use Rattle.job_machine.specs.Machines.{MachineState}
use Rattle.batch_front.specs.declared.load.Loaded.TheVariants.{Jobs}
use Rattle.batch_front.specs.LoadedBatches.{IsWaiting, RanOut}
use Rattle.batch_front.specs.ReportedJobs.{HasRunOut, ReportedJob}

-- its jobs ran on their machine
pub jobs_out : (before after : MachineState) (reported : List ReportedJob) → IsWaiting (Jobs before reported)
    → after.tasks ≡ before.tasks → HasRunOut after → RanOut (Jobs before reported) (Jobs after reported)
jobs_out before after reported waiting same out = grind arith
