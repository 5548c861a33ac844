-- What a step may rest on if a track is at a state of a verified job.
use Rattle.std.proofs.Common.{rules, ◌≡◌, ◌<◌, ◌≤◌, ℕ, true, List, [], ◌∷◌, length, None, refl, arith}
use Rattle.std.specs.Prelude.{All}
use Rattle.std.proofs.lemmas.List.Elements.{All-nil, All-cons, All-map, All-take, All-weaker}
use Rattle.vcode_base.specs.declared.instr.Instr.TheVariants.{Const}
use Rattle.vcode_base.specs.Instructions.{op_of}
use Rattle.vcode_base.specs.Kinds.{HaveKinds, source_kinds}
use Rattle.vcode_base.specs.Meaning.{need}
use Rattle.vcode_reader.specs.Trees.{Item}
use Rattle.signatures.specs.Signatures.{Signature}
use Rattle.verifier.specs.Kinded.{scope_of}
use Rattle.job_steps.specs.Buffers.{HaveAtMost}
use Rattle.job_steps.specs.Events.{early_end_in}
use Rattle.job_steps.specs.Motions.{top_entries, operand_count}
use Rattle.job_steps.specs.Questions.{need_words}
use Rattle.job_steps.specs.Reached.{IsVerifiedTask, AreTyped, IsReached, Reaches, ValuesHaveKinds}
use Rattle.job_steps.specs.StepLaws.{CanBegin, CanAdvance, StepsCanAdvance}
use Rattle.job_steps.specs.States.{Task, StackEntry, Active, State, stack_kinds, held_words, words_of}
use Rattle.job_steps.specs.Steps.{next_item, sources_of, question_of, can_run}
use Rattle.job_steps.specs.Tracks.{TrackState, IsAt}
use Rattle.job_steps.proofs.Bounds.{fits}
use Rattle.job_steps.proofs.Following.{same_length}
use Rattle.job_steps.proofs.Halves.{below_budget, spent_none}
use Rattle.job_steps.proofs.Held.{Has, has_itself, Agree, held_among}
use Rattle.job_steps.proofs.StackLemmas.{All-reverse}
use Rattle.job_steps.proofs.Typed.{runs_at}

-- ---- how long the operands are

-- no vector of a stack has more words than are held
each_held : (stack : List StackEntry) → Agree stack → All (λ e. length e.value.words ≤ held_words stack) stack
each_held stack agree =
    All-weaker (Has stack) (λ e. length e.value.words ≤ held_words stack)
    (λ e has. omega (arith, held_among (e ∷ []) stack (All-cons (Has stack) e [] has (All-nil (Has stack))) agree))
    stack (has_itself stack)

tops_held : (count : ℕ) (stack : List StackEntry) (most : ℕ) → Agree stack → held_words stack ≤ most →
    HaveAtMost most (words_of (top_entries count stack))
tops_held count stack most agree within =
    let short : All (λ (e : StackEntry). length e.value.words ≤ most) stack = All-weaker
    (λ e. length e.value.words ≤ held_words stack) (λ e. length e.value.words ≤ most) (λ e h. omega arith) stack
    (each_held stack agree) in
    search (rules, All-map, All-reverse, All-take)

sources_held : (item : Item) (stack : List StackEntry) (most : ℕ) → Agree stack → held_words stack ≤ most →
    need_words (question_of item stack) ≤ most → HaveAtMost most (sources_of item stack)
unfolding need
sources_held (Const k list) stack most agree held needed = grind arith
sources_held item stack most agree held needed = tops_held (operand_count (op_of item)) stack most agree held

-- ---- a step begins, is asked, and the track advances

module _ {C : Type 0} (signatures : List Signature) (task : Task) (v : IsVerifiedTask signatures task) (n : ℕ)
    (s : State) (t : TrackState C) (at : IsAt task t s) (r : IsReached signatures task n s) (call : Active)
    (outer : List Active) (is : s.calls ≡ call ∷ outer) where
  typed : AreTyped (scope_of signatures task.verified.program) task.verified.results (call ∷ outer)
      (stack_kinds s.stack)
  typed = rw is at r.typed

  -- the next instruction can run
  runs : can_run task.verified (next_item call).item s.stack ≡ true
  runs = runs_at signatures task.verified v task.verified.results call.ret outer s.stack call.rest typed

  begins : HaveKinds (source_kinds (op_of (next_item call).item)) (sources_of (next_item call).item s.stack) →
      CanBegin task n s t
  begins kinds = search (rules, runs)

  advances : n < task.limits.budget → early_end_in task s s.calls ≡ None →
      HaveKinds (source_kinds (op_of (next_item call).item)) (sources_of (next_item call).item s.stack) →
      CanAdvance task s t (next_item call).item
  advances unspent early kinds = grind (arith, fits, same_length, runs, sources_held)

pub begins_at : {C : Type 0} (signatures : List Signature) (task : Task) → IsVerifiedTask signatures task → (n : ℕ)
    (s : State) (t : TrackState C) → IsAt task t s → IsReached signatures task n s → ((call : Active)
    (outer : List Active) → s.calls ≡ call ∷ outer → HaveKinds (source_kinds (op_of (next_item call).item))
    (sources_of (next_item call).item s.stack)) → (calls : List Active) → s.calls ≡ calls → 1 ≤ length calls →
    CanBegin task n s t
begins_at signatures task v n s t at r kinds [] is some = absurd (omega arith)
begins_at signatures task v n s t at r kinds (call ∷ outer) is some =
    begins signatures task v n s t at r call outer is (kinds call outer is)

pub steps_can_advance : Reaches → ValuesHaveKinds → (C : Type 0) → StepsCanAdvance C
steps_can_advance reaches have_kinds C signatures task v n s t e at early call outer is =
    let r = reaches signatures task v n s e in
    let none = spent_none task.limits.budget s (early_end_in task s s.calls) _ refl early in
    advances signatures task v n s t at r call outer is (below_budget reaches signatures task v n s e early) none.1
    ((have_kinds signatures task v n s e).1 call outer is)
