-- What a device of a reader or a writer shows, and what a call makes of that.
use Rattle.std.specs.Prelude.{ℕ, ◌+◌, ◌-◌, ◌^◌, ◌≡◌, ◌≤◌, ◌⊎◌, Bool, true, false, min}
use Rattle.batch_front.specs.declared.device.Device.{Device}
use Rattle.batch_front.specs.declared.device.TheConstants.{MOST_INTERRUPTIONS}
use Rattle.batch_front.specs.declared.device.Trouble.{Trouble}
use Rattle.batch_front.specs.declared.device.Trouble.TheVariants.{Interrupted, Failed}

-- the reader or writer of a device
abbrev pub inner_of : {D : Type 0} → Device D → D
inner_of device = device.inner

-- whether a device gave an error other than an interruption, or took none of some bytes
abbrev pub has_failed : {D : Type 0} → Device D → Bool
has_failed device = device.failed

-- how often a device answered that it was interrupted
abbrev pub interrupts_of : {D : Type 0} → Device D → ℕ
interrupts_of device = device.interrupts

-- whether a device was flushed, and nothing was written since
abbrev pub is_flushed : {D : Type 0} → Device D → Bool
is_flushed device = device.flushed

-- whether a device was asked to flush, and nothing was written since
abbrev pub is_flushing : {D : Type 0} → Device D → Bool
is_flushing device = device.flushing

-- a device that was not used
pub record IsFresh {D : Type 0} (device : Device D) : Type 0 where
  pub not_failed : has_failed device ≡ false
  pub not_interrupted : interrupts_of device ≡ 0

-- one more, or the greatest number of 64 bits
abbrev pub saturating_suc : ℕ → ℕ
saturating_suc n = min (n + 1) (2 ^ 64 - 1)

-- a device that neither failed nor was interrupted since
abbrev pub IsSteady : {D : Type 0} → Device D → Device D → Type 0
IsSteady old new = (has_failed new ≡ has_failed old) × (interrupts_of new ≡ interrupts_of old)

-- a device that had this trouble since
abbrev pub IsTroubled : {D : Type 0} → Device D → Device D → Trouble → Type 0
IsTroubled old new Interrupted =
    (has_failed new ≡ has_failed old) × (interrupts_of new ≡ saturating_suc (interrupts_of old))
IsTroubled old new Failed = (has_failed new ≡ true) × (interrupts_of new ≡ interrupts_of old)

-- ---- a run in which n interruptions came

-- a device without a fault: it never failed, and no interruption is one too many
abbrev pub HasWorked : {D : Type 0} → Device D → ℕ → Type 0
HasWorked device count = (has_failed device ≡ false) × (count ≤ MOST_INTERRUPTIONS)

-- a device at fault: it failed, or its interruption is the one too many
abbrev pub IsAtFault : {D : Type 0} → Device D → ℕ → Type 0
IsAtFault device count = (has_failed device ≡ true) ⊎ (count ≡ MOST_INTERRUPTIONS + 1)
