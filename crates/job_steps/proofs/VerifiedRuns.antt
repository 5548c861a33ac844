-- What verified jobs reach, and how they end; the words of the vectors that they reach are those of their kinds.
use Rattle.std.proofs.Common.{◌≡◌, ℕ, ◌+◌, List, [], ◌∷◌, map, refl, ap, arith, zero, suc, ◌++◌, length, take, subst}
use Rattle.vcode_base.specs.declared.outcome.Outcome.TheVariants.{Returned}
use Rattle.vcode_base.specs.Laws.{ResultsHaveNeededLengths}
use Rattle.signatures.specs.Signatures.{Signature}
use Rattle.job_steps.specs.Reached.{IsVerifiedTask, IsReached, IsWithin, AreTyped, HasItsKind, ValuesHaveKinds}
use Rattle.job_steps.specs.Runs.{state_after, whole_run, outcome, executed_count, peak}
use Rattle.job_steps.specs.States.{Vector, Task, StackEntry, State, values_of, Active, words_of, stack_kinds}
use Rattle.job_steps.specs.States.{new_entries}
use Rattle.job_steps.specs.Steps.{Progress, Running, Over, Stuck, first_item, sources_of, question_of, results_of}
use Rattle.std.specs.Prelude.{All}
use Rattle.std.proofs.lemmas.List.Elements.{All-nil, All-head, All-tail, All-take}
use Rattle.vcode_base.specs.declared.kind.Kind.{Kind}
use Rattle.vcode_base.specs.Instructions.{op_of}
use Rattle.vcode_base.specs.Kinds.{HaveKinds, source_kinds}
use Rattle.vcode_reader.specs.Trees.{Item, Body, End, Do, Choice, IsBodyInstruction}
use Rattle.verifier.specs.Kinded.{Turns, scope_of}
use Rattle.job_steps.specs.Motions.{top_entries}
use Rattle.vcode_base.specs.declared.kind.Kind.TheVariants as kind
use Rattle.job_steps.proofs.Bounds.{bounded, running_from, Went, went}
use Rattle.job_steps.proofs.StackLemmas.{kind_of, map-reverse, cut, All-reverse, All-stack_after}
use Rattle.job_steps.proofs.Progresses.{item_of, goes}
use Rattle.job_steps.proofs.RunLaws.{within}
use Rattle.job_steps.proofs.Typed.{IsTyped, typed, never_stuck, regrouped}
use Rattle.job_steps.proofs.ValueKinds.{kinds_of_results}

pub reached : ResultsHaveNeededLengths → (signatures : List Signature) (task : Task) → IsVerifiedTask signatures task →
    (n : ℕ) (s : State) → state_after task n ≡ Running s → IsReached signatures task n s
reached law signatures task v n s e =
    let b = bounded law task n s e in
    let t = typed signatures task v n s e in
    grind arith

-- ---- each job ends

ends_by : ResultsHaveNeededLengths → (signatures : List Signature) (task : Task) → IsVerifiedTask signatures task →
    (q : Progress) → whole_run task ≡ q → IsWithin task
unfolding whole_run outcome executed_count peak
ends_by law signatures task v (Running s) is =
    absurd (let b = bounded law task (task.limits.budget + 1) s is in omega (arith, b.budget))
ends_by law signatures task v (Over ending x p) is = grind (arith, within)
ends_by law signatures task v Stuck is = absurd (never_stuck signatures task v (task.limits.budget + 1) is)

pub each_ends : ResultsHaveNeededLengths → (signatures : List Signature) (task : Task) →
    IsVerifiedTask signatures task → IsWithin task
each_ends law signatures task v = ends_by law signatures task v (whole_run task) refl

-- ---- the kinds of results

kinds-values : (stack : List StackEntry) → map (λ (v : Vector). v.kind) (values_of stack) ≡ map kind_of stack
kinds-values [] = refl
kinds-values (e ∷ es) = ap (λ ks. kind_of e ∷ ks) (kinds-values es)

pub results_have_kinds : (signatures : List Signature) (task : Task) → IsVerifiedTask signatures task →
    (n : ℕ) (values : List Vector) (x p : ℕ) → state_after task n ≡ Over (Returned values) x p →
    map (λ v. v.kind) values ≡ task.verified.results
results_have_kinds signatures task v zero values x p e = grind arith
results_have_kinds signatures task v (suc n) values x p e =
    let before = results_have_kinds signatures task v n values x p in
    grind (arith, typed signatures task v n, goes, map-reverse, kinds-values)

abbrev pub IsKept : StackEntry → Type 0
IsKept e = HasItsKind e.value

-- ---- what an instruction reads

have_kinds : (es : List StackEntry) → All IsKept es → HaveKinds (map kind_of es) (words_of es)
have_kinds [] all = tt
have_kinds (e ∷ es) all = (All-head IsKept e es all, have_kinds es (All-tail IsKept e es all))

-- the entries at the top, of these kinds
read_kinds : (stack : List StackEntry) (below takes own : List Kind) → takes ≡ own →
    stack_kinds stack ≡ below ++ takes → All IsKept stack → HaveKinds own (words_of (top_entries (length own) stack))
read_kinds stack below takes own t e all =
    let kept = have_kinds (top_entries (length own) stack)
    (All-reverse IsKept (take (length own) stack) (All-take IsKept (length own) stack all)) in
    grind (arith, cut, map-reverse)

module _ (signatures : List Signature) (task : Task) where
  sources_kinds : (item : Item) (takes gives below : List Kind) (stack : List StackEntry) → IsBodyInstruction item →
      Turns (scope_of signatures task.verified.program) item takes gives → stack_kinds stack ≡ below ++ takes →
      All IsKept stack → HaveKinds (source_kinds (op_of item)) (sources_of item stack)
  sources_kinds item takes gives below stack own t e all = grind (arith, read_kinds)

  -- the next instruction's
  next_kinds : (results : List Kind) (rest : Body) (ret : ℕ) (outer : List Active) (stack : List StackEntry) →
      AreTyped (scope_of signatures task.verified.program) results (record { rest = rest; ret = ret } ∷ outer)
      (stack_kinds stack) → All IsKept stack → HaveKinds (source_kinds (op_of (first_item rest ret).item))
      (sources_of (first_item rest ret).item stack)
  next_kinds results End ret outer stack t all = tt
  next_kinds results (Do item line rest) ret outer stack (below, own, gives, e, h, proper, out) all =
      sources_kinds item h.1 h.2 (below ++ h.0) stack proper.0 h.3
      (regrouped (stack_kinds stack) below h.0 h.1 own e h.4) all
  next_kinds results (Choice line first second end rest) ret outer stack
      (below, own, gives, e, h, proper, out) all =
      read_kinds stack (below ++ h.0) (kind.Bool ∷ []) (kind.Bool ∷ []) refl
      (regrouped (stack_kinds stack) below h.0 (kind.Bool ∷ []) own e h.2) all
  -- ---- states

new_kept : (next : ℕ) (vs : List Vector) → All HasItsKind vs → All IsKept (new_entries next vs)
new_kept next [] all = All-nil IsKept
new_kept next (v ∷ vs) all = grind (arith, All-head, (new_kept (next + 1) vs (All-tail HasItsKind v vs all)))

kinds_at : (signatures : List Signature) (task : Task) (s : State) → IsTyped signatures task s → All IsKept s.stack →
    (call : Active) (outer : List Active) → s.calls ≡ call ∷ outer →
    HaveKinds (source_kinds (op_of (item_of call))) (sources_of (item_of call) s.stack)
kinds_at signatures task s t k call outer calls =
    next_kinds signatures task task.verified.results call.rest call.ret outer s.stack (rw calls at t.1) k

kept_next : (signatures : List Signature) (task : Task) (s next : State) → IsTyped signatures task s →
    All IsKept s.stack → Went task s next → All IsKept next.stack
kept_next signatures task s next t k w =
    let item = item_of w.call in
    let q = question_of item s.stack in
    let own = kinds_at signatures task s t k w.call w.outer w.passes.calls in
    let new = new_kept s.next (results_of q) (kinds_of_results q.op q.sources own w.passes.late) in
    subst (λ (after : State). All IsKept after.stack) w.new
    (All-stack_after IsKept q.op (new_entries s.next (results_of q)) s.stack new k)

kept : (signatures : List Signature) (task : Task) → IsVerifiedTask signatures task → (n : ℕ) (s : State) →
    state_after task n ≡ Running s → All IsKept s.stack
kept signatures task v zero s e = grind arith
kept signatures task v (suc n) s e =
    let from = running_from task (state_after task n) s e in
    kept_next signatures task from.0 s (typed signatures task v n from.0 from.1)
    (kept signatures task v n from.0 from.1) (went task from.0 s from.2)

pub values_have_kinds : ValuesHaveKinds
values_have_kinds signatures task v n s e =
    let k = kept signatures task v n s e in
    (k, kinds_at signatures task s (typed signatures task v n s e) k)
