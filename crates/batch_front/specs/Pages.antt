-- A report on its way to a writer: what is said so far, and what of it is kept back.
use Rattle.std.specs.Prelude.{◌≡◌, ◌+◌, ◌⊎◌, ℕ, true, false, List, [], ◌++◌, take, Option, OnOk, OnErr, IsErrOf}
use Rattle.std.specs.declared.result.Result.{Result}
use Rattle.std.specs.Io.KnownBytes.{Appends}
use Rattle.batch_front.specs.declared.device.Device.{Device}
use Rattle.batch_front.specs.declared.fault.FrontFault.{FrontFault}
use Rattle.batch_front.specs.declared.fault.FrontFault.TheVariants.{Write}
use Rattle.batch_front.specs.declared.page.Page.{Page}
use Rattle.batch_front.specs.Devices.{inner_of, interrupts_of, is_flushed, is_flushing, HasWorked, IsAtFault}

-- a writer has all that is said, but for what is kept back
pub record HasSent (start now : Option (List ℕ)) (said kept : List ℕ) : Type 0 where
  pub sent : List ℕ
  pub appended : Appends start now sent
  pub all : said ≡ sent ++ kept

-- a writer that failed at a write has a front of what is said
pub record HasStopped {D : Type 0} (start now : Option (List ℕ)) (said : List ℕ) (writer : Device D) : Type 0 where
  pub at_write : is_flushing writer ≡ false
  pub front : (n : ℕ) × Appends start now (take n said)

-- a text was said so far: the writer has it but for what is kept back, or it is at fault and has a front of it
abbrev pub IsSaid :
    {D : Type 0} → (D → Option (List ℕ)) → ℕ → Option (List ℕ) → List ℕ → List ℕ → Device D → Type 0
IsSaid contents spent start said kept writer =
    (HasWorked writer (interrupts_of writer + spent) × HasSent start (contents (inner_of writer)) said kept)
    ⊎ (IsAtFault writer (interrupts_of writer + spent) × HasStopped start (contents (inner_of writer)) said writer)

-- the writer is sent what was kept back
abbrev pub Sends : {D : Type 0} → (D → Option (List ℕ)) → ℕ → List ℕ → Device D → Device D → Type 0
Sends contents spent kept old new =
    (start : Option (List ℕ)) (said : List ℕ) → IsSaid contents spent start said kept old →
    IsSaid contents spent start said [] new

-- a text is said after what was said before
pub record Puts {D : Type 0} (contents : D → Option (List ℕ)) (page : Page) (writer : Device D) (new_page : Page)
    (new_writer : Device D) (text : List ℕ) : Type 0 where
  pub spent : new_page.spent ≡ page.spent
  pub said :
      (start : Option (List ℕ)) (said : List ℕ) → IsSaid contents page.spent start said page.bytes.items writer →
      IsSaid contents page.spent start (said ++ text) new_page.bytes.items new_writer

-- a report is written and flushed, or the writer is at fault and has a front of it: all of it, if the flush failed
pub record IsWritten {D T : Type 0} (contents : D → Option (List ℕ)) (spent : ℕ) (start : Option (List ℕ))
    (said : List ℕ) (writer : Device D) (result : Result T FrontFault) : Type 0 where
  pub all_written : OnOk result (Appends start (contents (inner_of writer)) said)
  pub flushed : OnOk result (is_flushed writer ≡ true)
  pub worked : OnOk result (HasWorked writer (interrupts_of writer + spent))
  pub front_written : (n : ℕ) × Appends start (contents (inner_of writer)) (take n said)
  pub before_flush : OnErr result (is_flushing writer ≡ true → Appends start (contents (inner_of writer)) said)
  pub fault : OnErr result (IsAtFault writer (interrupts_of writer + spent))
  pub write_alone : OnErr result (IsErrOf result Write)

-- whatever was said is written
abbrev pub Ends :
    {D : Type 0} → (D → Option (List ℕ)) → Page → Device D → Device D → Result (Unit {0}) FrontFault → Type 0
Ends contents page old new result =
    (start : Option (List ℕ)) (said : List ℕ) → IsSaid contents page.spent start said page.bytes.items old →
    IsWritten contents page.spent start said new result
