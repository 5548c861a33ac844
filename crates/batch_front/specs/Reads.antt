-- A batch that is read: which one it is, and what a read of it makes of the reader's device.
use Rattle.std.specs.Prelude.{◌≡◌, ◌⊎◌, ℕ, List, Option, IfSome, OnOk, OnErr, IsErrOf}
use Rattle.std.specs.declared.result.Result.{Result}
use Rattle.batch_reader.specs.declared.entry.Batch.{Batch}
use Rattle.batch_reader.specs.Fates.{JobEntry, IsBatch}
use Rattle.batch_front.specs.declared.device.Device.{Device}
use Rattle.batch_front.specs.declared.fault.FrontFault.{FrontFault}
use Rattle.batch_front.specs.declared.fault.FrontFault.TheVariants.{Memory, Read}
use Rattle.batch_front.specs.Devices.{inner_of, interrupts_of, HasWorked, IsAtFault}
use Rattle.batch_front.specs.Inputs.{first_bytes, ReadsFirstBytes, ReadsNoFurther}

-- the first bytes of an input, if they are known
abbrev pub AreFirstBytes : Option (List ℕ) → List ℕ → Type 0
AreFirstBytes old bytes = IfSome old (λ input. bytes ≡ first_bytes input)

-- the answer to some bytes, which are the first of an input if that is known
pub record IsBatchIn (region : ℕ) (old : Option (List ℕ)) (batch : Batch (List JobEntry)) : Type 0 where
  pub bytes : List ℕ
  pub first : AreFirstBytes old bytes
  pub comes : IsBatch region bytes batch

-- what a read of a batch makes of a reader's device, and what it answers
pub record Reads {R T : Type 0} (remaining : R → Option (List ℕ)) (reader new_reader : Device R)
    (result : Result T FrontFault) : Type 0 where
  -- the input is read to its end, or exactly one byte further than a batch may have
  pub to_the_end : OnOk result (ReadsFirstBytes (remaining (inner_of reader)) (remaining (inner_of new_reader)))
  -- it is never read any further
  pub no_further : ReadsNoFurther (remaining (inner_of reader)) (remaining (inner_of new_reader))
  -- no fault is passed over, nor one interruption too many
  pub worked : OnOk result (HasWorked new_reader (interrupts_of new_reader))
  pub read_fault : IsErrOf result Read → IsAtFault new_reader (interrupts_of new_reader)
  pub read_or_memory : OnErr result (IsErrOf result Read ⊎ IsErrOf result Memory)
