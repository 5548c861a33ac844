-- What a run makes of its input and its output.
use Rattle.std.specs.Prelude.{◌≡◌, ◌⊎◌, ◌+◌, ℕ, true, List, take, Option, IfSome, IfOk, OnOk, IsErrOf}
use Rattle.std.specs.declared.result.Result.{Result}
use Rattle.std.specs.Io.KnownBytes.{Appends, Keeps}
use Rattle.batch_reader.specs.declared.entry.Batch.{Batch}
use Rattle.batch_reader.specs.Fates.{JobEntry, IsBatch}
use Rattle.batch_front.specs.declared.device.Device.{Device}
use Rattle.batch_front.specs.declared.fault.FrontFault.{FrontFault}
use Rattle.batch_front.specs.declared.fault.FrontFault.TheVariants.{Memory, Mixed, Read, Write}
use Rattle.batch_front.specs.declared.status.Status.{Status}
use Rattle.batch_front.specs.Devices.{inner_of, interrupts_of, is_flushed, is_flushing, HasWorked, IsAtFault}
use Rattle.batch_front.specs.Inputs.{first_bytes, ReadsFirstBytes, ReadsNoFurther}
use Rattle.batch_front.specs.Reports.{report_of, status_of}

-- after what the output held comes the report of the batch that the input is, and the status is the batch's
abbrev pub WritesReport : ℕ → Option (List ℕ) → Option (List ℕ) → Option (List ℕ) → Status → Type 0
WritesReport region input old new status = IfSome input (λ bytes. (batch : Batch (List JobEntry)) ×
    IsBatch region (first_bytes bytes) batch × Appends old new (report_of batch) × (status ≡ status_of batch))

-- after what the output held comes a part of that report, from its front
abbrev pub WritesFront : ℕ → Option (List ℕ) → Option (List ℕ) → Option (List ℕ) → Type 0
WritesFront region input old new = IfSome input (λ bytes. (batch : Batch (List JobEntry)) ×
    IsBatch region (first_bytes bytes) batch × (n : ℕ) × Appends old new (take n (report_of batch)))

-- after what the output held comes all of that report
abbrev pub WritesWhole : ℕ → Option (List ℕ) → Option (List ℕ) → Option (List ℕ) → Type 0
WritesWhole region input old new = IfSome input (λ bytes. (batch : Batch (List JobEntry)) ×
    IsBatch region (first_bytes bytes) batch × Appends old new (report_of batch))

-- What a run does, from a reader's device to a writer's, each before the run and after it. The reader's input and the
-- writer's output are known as far as their own contracts say.
pub record Runs {R W : Type 0} (remaining : R → Option (List ℕ)) (contents : W → Option (List ℕ)) (region : ℕ)
    (reader new_reader : Device R) (writer new_writer : Device W) (result : Result Status FrontFault) : Type 0 where
  -- the report is written and nothing else, and the status is the batch's
  pub report :
      IfOk result (WritesReport region (remaining (inner_of reader)) (contents (inner_of writer))
      (contents (inner_of new_writer)))
  pub flushed : OnOk result (is_flushed new_writer ≡ true)
  -- no fault of a device is passed over, nor one interruption too many
  pub reader_worked : OnOk result (HasWorked new_reader (interrupts_of new_reader + interrupts_of new_writer))
  pub writer_worked : OnOk result (HasWorked new_writer (interrupts_of new_reader + interrupts_of new_writer))
  -- the input is read to its end, or exactly one byte further than a batch may have, before anything is written
  pub read_to_the_end : OnOk result (ReadsFirstBytes (remaining (inner_of reader)) (remaining (inner_of new_reader)))
  pub read_before_written :
      IsErrOf result Write → ReadsFirstBytes (remaining (inner_of reader)) (remaining (inner_of new_reader))
  -- it is never read any further
  pub read_no_further : ReadsNoFurther (remaining (inner_of reader)) (remaining (inner_of new_reader))
  -- a part of the report from its front was written
  pub front_written :
      IsErrOf result Write → WritesFront region (remaining (inner_of reader)) (contents (inner_of writer))
      (contents (inner_of new_writer))
  -- all of the report was written, if the fault was at the flush
  pub whole_written :
      IsErrOf result Write → is_flushing new_writer ≡ true → WritesWhole region (remaining (inner_of reader))
      (contents (inner_of writer)) (contents (inner_of new_writer))
  pub nothing_written :
      IsErrOf result Read ⊎ IsErrOf result Memory ⊎ IsErrOf result Mixed →
      Keeps (contents (inner_of writer)) (contents (inner_of new_writer))
  -- the side that failed, or the first interruption of the run that is too many
  pub read_fault :
      IsErrOf result Read → IsAtFault new_reader (interrupts_of new_reader + interrupts_of new_writer)
  pub write_fault :
      IsErrOf result Write → IsAtFault new_writer (interrupts_of new_reader + interrupts_of new_writer)
