-- What holds if a track is at a state that a verified job reaches: what the calls of a step require.
use Rattle.std.specs.Prelude.{◌≡◌, ℕ, ◌<◌, ◌≤◌, List, ◌∷◌, length, None}
use Rattle.vcode_base.specs.Instructions.{op_of}
use Rattle.vcode_base.specs.Kinds.{HaveKinds, source_kinds}
use Rattle.vcode_base.specs.Meaning.{shape}
use Rattle.vcode_reader.specs.Trees.{Item}
use Rattle.signatures.specs.Signatures.{Signature}
use Rattle.job_steps.specs.Buffers.{HaveAtMost}
use Rattle.job_steps.specs.Events.{early_end}
use Rattle.job_steps.specs.Frames.{AreActive, StandAll}
use Rattle.job_steps.specs.Motions.{depth_after}
use Rattle.job_steps.specs.Reached.{IsVerifiedTask}
use Rattle.job_steps.specs.Runs.{state_after}
use Rattle.job_steps.specs.States.{Task, Active, State, held_words}
use Rattle.job_steps.specs.Steps.{Running, next_item, sources_of, words_at}
use Rattle.job_steps.specs.Tickets.{CanAnswer, question_by}
use Rattle.job_steps.specs.Tracks.{TrackState, IsAt, IsDeep, CanFollow, functions_of}

-- Some call is active. The operands of its next instruction are there, of their kinds, within what the job may hold.
pub record CanBegin {C : Type 0} (task : Task) (n : ℕ) (s : State) (t : TrackState C) : Type 0 where
  pub active : AreActive (functions_of task.verified) t.frames
  pub call : Active
  pub outer : List Active
  pub calls : s.calls ≡ call ∷ outer
  pub stands : StandAll (functions_of task.verified) t.frames (call ∷ outer)
  pub executed : t.executed ≡ n
  pub within : n ≤ task.limits.budget
  pub kinds : HaveKinds (source_kinds (op_of (next_item call).item)) (sources_of (next_item call).item s.stack)
  pub depth : length t.cells ≤ task.limits.cells
  pub words : held_words s.stack ≤ task.limits.words
  pub deep : IsDeep (op_of (next_item call).item) (length t.cells)

-- a step can begin wherever a verified job runs
abbrev pub StepsCanBegin : Type 0 → Type 0
StepsCanBegin C =
    (signatures : List Signature) (task : Task) → IsVerifiedTask signatures task →
    (n : ℕ) (s : State) (t : TrackState C) → state_after task n ≡ Running s → IsAt task t s → CanBegin task n s t

-- This instruction can be executed, and asked of any desk for as many words as the job may hold.
pub record CanAdvance {C : Type 0} (task : Task) (s : State) (t : TrackState C) (item : Item) : Type 0 where
  pub unspent : t.executed < t.limits.budget
  pub deep : IsDeep (op_of item) (length t.cells)
  pub cells : depth_after (op_of item) (length t.cells) ≤ t.limits.cells
  pub follows : CanFollow task.verified (op_of item) t.frames t.limits.calls
  pub room : words_at task.rule item s ≤ task.limits.words
  pub shaped : shape (op_of item) (sources_of item s.stack) ≡ None
  pub answers : (words : ℕ) → task.limits.words ≤ words →
      CanAnswer words (question_by (op_of item) (sources_of item s.stack))
  pub lengths : (words : ℕ) → task.limits.words ≤ words → HaveAtMost words (sources_of item s.stack)

-- so is the next instruction of a verified job, unless something ends the job before its values are looked at
abbrev pub StepsCanAdvance : Type 0 → Type 0
StepsCanAdvance C =
    (signatures : List Signature) (task : Task) → IsVerifiedTask signatures task →
    (n : ℕ) (s : State) (t : TrackState C) → state_after task n ≡ Running s → IsAt task t s → early_end task s ≡ None →
    (call : Active) (outer : List Active) → s.calls ≡ call ∷ outer → CanAdvance task s t (next_item call).item
