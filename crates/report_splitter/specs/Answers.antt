-- Which reports have an entry at a place, which break off before it is whole, and which faults say so.
use Rattle.std.specs.Prelude.{◌≡◌, ◌<◌, ◌⊎◌, ℕ, List, ◌++◌, Option, Some, None}
use Rattle.report_splitter.specs.declared.ending.LineEnd.{LineEnd}
use Rattle.report_splitter.specs.declared.fault.CutFault.{CutFault}
use Rattle.report_splitter.specs.declared.fault.CutFault.TheVariants.{Memory, BrokenOff, OtherBatch}
use Rattle.report_splitter.specs.Fronts.{Begins, HasLine}

-- a report begins with this head, and the line that begins with the next head comes after it with its LF
pub record HasEntry (head next report : List ℕ) : Type 0 where
  pub rest : List ℕ
  pub parts : report ≡ head ++ rest
  pub line : HasLine next rest

-- a report ends within this head, or it begins with it and has no such line
abbrev pub BreaksOff : List ℕ → List ℕ → List ℕ → Type 0
BreaksOff head next report =
    Begins report head ⊎ ((rest : List ℕ) × (report ≡ head ++ rest) × (HasLine next rest → ⊥))

-- a report that neither has the entry nor breaks off begins otherwise; one that has it may be of another batch too
abbrev pub IsFaultOf : List ℕ → List ℕ → List ℕ → CutFault → Type 0
IsFaultOf head next report Memory = Unit {0}
IsFaultOf head next report BrokenOff = BreaksOff head next report
IsFaultOf head next report OtherBatch = BreaksOff head next report → ⊥

-- what is answered to a report that doesn't begin with a head
abbrev pub IsHeadFault : List ℕ → List ℕ → CutFault → Type 0
IsHeadFault head report fault =
    ((fault ≡ BrokenOff) × Begins report head) ⊎ ((fault ≡ OtherBatch) × (Begins report head → ⊥))

-- the end names a line before a file that begins at this line of the batch
abbrev pub IsEarlyEnd : ℕ → Option LineEnd → Type 0
IsEarlyEnd first_line None = ⊥
IsEarlyEnd first_line (Some end) = end.line < first_line
