-- What the next instruction of a job needs.
use Rattle.std.specs.Prelude.{◌≡◌, ℕ, ℤ, ◌+◌, ◌≤◌, List, [], ◌∷◌, length, Option, Some, None, Result, MatchResult}
use Rattle.vcode_base.specs.declared.fault.DataFault.{DataFault}
use Rattle.vcode_base.specs.declared.fault.MemoryFault.{MemoryFault}
use Rattle.vcode_base.specs.declared.op.Op.{Op}
use Rattle.vcode_base.specs.declared.outcome.Outcome.TheVariants.{Fault, Memory}
use Rattle.vcode_base.specs.Kinds.{HaveKinds, source_kinds}
use Rattle.vcode_base.specs.Meaning.{need}
use Rattle.job_memory.specs.JobBlocks.{JobBlocks}
use Rattle.job_steps.specs.Questions.{Question}
use Rattle.job_steps.specs.States.{Task}
use Rattle.job_steps.specs.Steps.{Ending}
use Rattle.job_steps.specs.Tracks.{TrackState}
use Rattle.job_slots.specs.declared.ticket.EarlyFault.{EarlyFault}
use Rattle.job_slots.specs.declared.ticket.EarlyFault.TheVariants.{Shape, Limit}
use Rattle.job_slots.specs.declared.ticket.Needs.{Needs}
use Rattle.job_slots.specs.Answers.{CanAsk, IsNext, early_end_at}
use Rattle.job_slots.specs.Commits.{held_under}

-- the words of the results, and their sum with the `held` words
pub record AreNeeds (held : ℕ) (q : Question) (needs : Needs) : Type 0 where
  pub lengths : (needs.first, needs.second) ≡ need q.op q.sources
  pub words_are : needs.words ≡ held + needs.first + needs.second

-- the first fault that there is
abbrev pub early_fault : Option DataFault → Option MemoryFault → Option EarlyFault
early_fault (Some fault) limit = Some (Shape fault)
early_fault None (Some fault) = Some (Limit fault)
early_fault None None = None

-- how it ends a job at a line
abbrev pub ending_of : EarlyFault → ℕ → Ending
ending_of (Shape fault) line = Fault fault line
ending_of (Limit fault) line = Memory fault line

-- they are found unless the instruction has such a fault
abbrev pub AreFoundNeeds : ℕ → Question → Option EarlyFault → Result Needs EarlyFault → Type 0
AreFoundNeeds held q early found =
    MatchResult found (λ needs. AreNeeds held q needs × (early ≡ None)) (λ fault. early ≡ Some fault)

-- nothing ends the job before the values of its next instruction are looked at, which is this one with these operands,
-- and needs these words
pub record IsReady (task : Task) (job : ℕ) (blocks : JobBlocks) (t : TrackState ℕ) (op : Op) (sources : List (List ℤ))
    (needs : Needs) : Type 0 where
  pub next : IsNext task t.executed op sources
  pub kinds : HaveKinds (source_kinds op) sources
  pub goes_on : early_end_at task t.executed ≡ None
  pub can_ask : (words : ℕ) → task.limits.words ≤ words → CanAsk words op sources
  pub lengths : (needs.first, needs.second) ≡ need op sources
  pub words_are : needs.words ≡ held_under task.rule job op t.cells blocks + needs.first + needs.second

-- the words of a list and those that are held beside it, or 0 if it has none
abbrev pub words_with : List ℤ → ℕ → ℕ
words_with [] held = 0
words_with (x ∷ xs) held = held + length (x ∷ xs)
