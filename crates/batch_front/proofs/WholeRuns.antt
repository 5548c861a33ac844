-- What a whole run does, from what its parts do.
use Rattle.std.proofs.Common.{◌≡◌, ℕ, List, Option, arith}
use Rattle.std.specs.Prelude.{Result, Ok, IfOk}
use Rattle.batch_front.specs.declared.device.Device.{Device}
use Rattle.batch_front.specs.declared.fault.FrontFault.{FrontFault}
use Rattle.batch_front.specs.declared.status.Status.{Status}
use Rattle.batch_front.specs.Devices.{inner_of, interrupts_of}
use Rattle.batch_front.specs.LoadedBatches.{IsLoaded, LoadedBatch, RanOut, loaded_status, loaded_text}
use Rattle.batch_front.specs.Pages.{IsWritten}
use Rattle.batch_front.specs.Reads.{Reads}
use Rattle.batch_front.specs.Runs.{Runs}

-- a run that writes its report
pub run_reported : {R W : Type 0} (remaining : R → Option (List ℕ)) (contents : W → Option (List ℕ)) (region : ℕ)
    (reader new_reader : Device R) (writer new_writer : Device W) (loaded out : LoadedBatch) (spent : ℕ)
    (result : Result Status FrontFault)
    → IsLoaded region (remaining (inner_of reader)) loaded → Reads remaining reader new_reader (Ok loaded)
    → RanOut loaded out → spent ≡ interrupts_of new_reader → IfOk result (λ status. status ≡ loaded_status out)
    → IsWritten contents spent (contents (inner_of writer)) (loaded_text out) new_writer result
    → Runs remaining contents region reader new_reader writer new_writer result
run_reported remaining contents region reader new_reader writer new_writer loaded out spent result is read ran same
    status written = grind arith
