-- The calls of a verified job are typed over its stack, in each state that it reaches.
use Rattle.std.proofs.lemmas.Grind.{common_steps}
use Rattle.std.proofs.Common.{◌≡◌, ℕ, ◌+◌, ◌≤◌, Bool, true, List, [], ◌∷◌, ◌++◌, length, drop, Option, Some, None, refl}
use Rattle.std.proofs.Common.{sym, ◌∙◌, ap, subst, arith, zero, suc, get_or}
use Rattle.std.specs.Prelude.{Contains, IsTrue, position, slice_get, nat_le, reverse, option_map}
use Rattle.std.specs.Str.{bytes_eq}
use Rattle.std.proofs.lemmas.List.{append_assoc}
use Rattle.std.proofs.lemmas.List.Elements.{All-contains, Contains-get_or}
use Rattle.std.proofs.lemmas.List.Quantifiers.{position-Some}
use Rattle.std.proofs.lemmas.Option.{slice_get-get_or, slice_get-map}
use Rattle.std.proofs.lemmas.Slice.Eq.{bytes_eq-Decides}
use Rattle.vcode_base.specs.declared.instr.Instr.TheVariants.{If, Move, Call, Return}
use Rattle.vcode_base.specs.declared.kind.Kind.{Kind}
use Rattle.vcode_base.specs.declared.kind.Kind.TheVariants as kind
use Rattle.vcode_base.specs.Instructions.{op_of}
use Rattle.vcode_base.specs.Kinds.{operand_kinds, result_kinds}
use Rattle.vcode_base.specs.Names.{main_name}
use Rattle.vcode_reader.specs.Decode.{then_body}
use Rattle.vcode_reader.specs.Trees.{Item, Body, End, Do, Choice, Function, IsBodyInstruction, IsProperBody}
use Rattle.signatures.specs.Signatures.{FunctionType, Signature, kinds_of as signature_of}
use Rattle.verifier.specs.Typed.{TypedProgram, AreArrows}
use Rattle.verifier.specs.Kinded.{Scope, Turns, HasKinds, FitsSignature, has_function, scope_of}
use Rattle.job_steps.specs.Motions.{stack_after}
use Rattle.job_steps.specs.Reached.{IsVerifiedProgram, IsVerifiedTask, AreTyped}
use Rattle.job_steps.specs.Runs.{state_after}
use Rattle.job_steps.specs.States.{Task, StackEntry, Active, State, callee_named, calls_with, first_state, stack_kinds}
use Rattle.job_steps.specs.States.{new_entries}
use Rattle.job_steps.specs.Steps.{Running, Stuck, question_of, results_of, has_on_top, can_call, can_run, first_item}
use Rattle.job_steps.specs.Steps.{calls_past, calls_after, next_progress}
use Rattle.job_steps.proofs.Bounds.{running_from, Went, went}
use Rattle.job_steps.proofs.StackLemmas.{cut, on_top, kinds-pushed, kinds-moved}
use Rattle.job_steps.proofs.Progresses.{item_of, goes}
use Rattle.job_steps.proofs.RunLaws.{by_runs, running_stuck}

-- ---- bodies one after another

kinds_then : (scope : Scope) (b c : Body) (before between after : List Kind) → HasKinds scope b before between →
    HasKinds scope c between after → HasKinds scope (then_body b c) before after
unfolding then_body
kinds_then scope End c before between after h later = subst (λ ks. HasKinds scope c ks after) (sym h) later
kinds_then scope (Do item line b) c before between after h later = grind (arith, (kinds_then scope b))
kinds_then scope (Choice line first second end b) c before between after h later = grind (arith, (kinds_then scope b))

proper_then : (b c : Body) → IsProperBody b → IsProperBody c → IsProperBody (then_body b c)
unfolding then_body
proper_then End c p q = q
proper_then (Do item line b) c p q = (p.0, proper_then b c p.1 q)
proper_then (Choice line first second end b) c p q = (p.0, p.1, proper_then b c p.2 q)

-- ---- the functions that calls name

-- a function with its arrow, which its body keeps to
pub record IsCallee (signatures : List Signature) (verified : TypedProgram) (name : List ℕ) (takes gives : List Kind)
    : Type 0
  where
    pub function : Function
    pub is : callee_named verified name ≡ Some (record { function = function; arrow = (takes, gives) })
    pub kinds : HasKinds (scope_of signatures verified.program) function.body takes gives
    pub proper : IsProperBody function.body

-- a function of this name
record IsNamed (functions : List Function) (name : List ℕ) (place : ℕ) : Type 0 where
  function : Function
  there : slice_get functions place ≡ Some function
  listed : Contains functions function
  named : function.name ≡ name

named : (functions : List Function) (name : List ℕ) (place : ℕ) →
    position (λ (f : Function). bytes_eq f.name name) functions ≡ Some place → IsNamed functions name place
named [] name place e = absurd (let h : ◌≡◌ {A = Option ℕ} None (Some place) = e in cc)
named (g ∷ fs) name place e =
    let p = position-Some (λ (f : Function). bytes_eq f.name name) (g ∷ fs) place g e in
    let f = get_or (g ∷ fs) place g in
    record {
      function = f;
      there = slice_get-get_or (g ∷ fs) place g p.0;
      listed = Contains-get_or (g ∷ fs) place g p.0;
      named = (bytes_eq-Decides f.name name).0 p.1;
    }

arrow_in : (o : Option FunctionType) (arrow : FunctionType) →
    option_map (λ (a : FunctionType). Some a) o ≡ Some (Some arrow) → o ≡ Some arrow
arrow_in o arrow e = grind arith

-- the arrow of a function is that of its signature
arrow_at : (signatures : List Signature) (functions : List Function) (arrows : List FunctionType) (place : ℕ)
    (f : Function) (arrow : FunctionType) → AreArrows signatures functions arrows → slice_get functions place ≡ Some f →
    signature_of signatures f.name ≡ Some arrow → slice_get arrows place ≡ Some arrow
arrow_at signatures functions arrows place f arrow same there signed =
    arrow_in (slice_get arrows place) arrow (rw (← slice_get-map, ← same, slice_get-map, there) (ap Some signed))

-- ---- one instruction

tops : (stack : List StackEntry) (below takes own : List Kind) → takes ≡ own → stack_kinds stack ≡ below ++ takes →
    has_on_top own stack ≡ true
tops stack below takes own t e = on_top stack below own (cut stack below own (e ∙ ap (λ ks. below ++ ks) t))

moves : (lower upper l u depth : ℕ) → l ≡ lower → u ≡ upper → l + u ≤ depth → nat_le (lower + upper) depth ≡ true
moves lower upper l u depth p q h = grind arith

-- the entries afterwards
abbrev stack_past : Item → ℕ → List StackEntry → List StackEntry
stack_past item next stack = stack_after (op_of item) (new_entries next (results_of (question_of item stack))) stack

pushed : (item : Item) (next : ℕ) (stack : List StackEntry) (below takes gives : List Kind) →
    takes ≡ operand_kinds (op_of item) → gives ≡ result_kinds (op_of item) → stack_kinds stack ≡ below ++ takes →
    stack_kinds (reverse (new_entries next (results_of (question_of item stack))) ++ drop
    (length (operand_kinds (op_of item))) stack) ≡ below ++ gives
pushed item next stack below takes gives t g e = grind (arith, kinds-pushed, cut)

pub regrouped : (kinds below under takes own : List Kind) → kinds ≡ below ++ own → own ≡ under ++ takes →
    kinds ≡ (below ++ under) ++ takes
regrouped kinds below under takes own e h = grind (arith, append_assoc)

-- ---- a program that signatures verify

module _ (signatures : List Signature) (verified : TypedProgram) (v : IsVerifiedProgram signatures verified) where
  abbrev scope : Scope
  scope = scope_of signatures verified.program

  module _ (name : List ℕ) (takes gives : List Kind) (s : signature_of signatures name ≡ Some (takes, gives)) where
    callee_at_place : (place : ℕ) →
        position (λ (f : Function). bytes_eq f.name name) verified.program.functions ≡ Some place →
        IsCallee signatures verified name takes gives
    callee_at_place place e =
        let n = named verified.program.functions name place e in
        let fit = All-contains (FitsSignature scope) verified.program.functions n.function
        v.by_signatures.well_kinded.functions n.listed in
        let proper = All-contains (λ (g : Function). IsProperBody g.body) verified.program.functions n.function v.proper
        n.listed in
        let arrow = arrow_at signatures verified.program.functions verified.arrows place n.function (takes, gives)
        v.by_signatures.arrows n.there in
        grind arith

    pub callee : IsTrue (has_function name verified.program.functions) → IsCallee signatures verified name takes gives
    callee there = grind (arith, callee_at_place)

  -- an instruction that is typed can run
  module _ (stack : List StackEntry) (below takes gives : List Kind) (e : stack_kinds stack ≡ below ++ takes) where
    runs : (item : Item) → Turns scope item takes gives → can_run verified item stack ≡ true
    runs (Move motion lower upper) t =
        moves lower upper (length t.0) (length t.1) (length stack) t.2 t.3
        (kinds-moved motion stack below t.0 t.1 (e ∙ ap (λ ks. below ++ ks) t.4)).0
    runs (Call name) t =
        ap (λ o. can_call o stack) (callee name takes gives t.1 t.0).is ∙ tops stack below takes takes refl e
    runs item t = tops stack below takes (operand_kinds (op_of item)) t.0 e

  module _ (results : List Kind) (ret : ℕ) (outer : List Active) where
    -- an innermost call of which this remains
    module _ (rest : Body) (below under gives given : List Kind) (later : HasKinds scope rest (under ++ given) gives)
        (proper : IsProperBody rest) (out : AreTyped scope results outer (below ++ gives)) where
      behind : (kinds : List Kind) → kinds ≡ (below ++ under) ++ given →
          AreTyped scope results (record { rest = rest; ret = ret } ∷ outer) kinds
      behind kinds e = (below, under ++ given, gives, e ∙ append_assoc below under given, later, proper, out)

      typed_item : (next : ℕ) (stack : List StackEntry) (takes : List Kind) →
          stack_kinds stack ≡ (below ++ under) ++ takes → (item : Item) → IsBodyInstruction item →
          Turns scope item takes given → AreTyped scope results
          (calls_past verified item (record { rest = rest; ret = ret }) outer)
          (stack_kinds (stack_past item next stack))
      typed_item next stack takes e (Move motion lower upper) inner t =
          grind (arith, behind, common_steps, kinds-moved)
      typed_item next stack takes e (Call name) inner t =
          let found = callee name takes given t.1 t.0 in
          let last = behind ((below ++ under) ++ given) refl in
          subst (λ o. AreTyped scope results (calls_with o (record { rest = rest; ret = ret } ∷ outer))
          (stack_kinds (stack_past (Call name) next stack))) (sym found.is)
          (below ++ under, takes, given, e, found.kinds, found.proper, last)
      typed_item next stack takes e If inner t = absurd inner
      typed_item next stack takes e Return inner t = absurd inner
      typed_item next stack takes e item inner t =
          behind _ (pushed item next stack (below ++ under) takes given t.0 t.1 e)

    module _ (stack : List StackEntry) where
      -- what is typed stays typed
      typed_after : (flag : Bool) (next : ℕ) (rest : Body) →
          AreTyped scope results (record { rest = rest; ret = ret } ∷ outer) (stack_kinds stack) →
          AreTyped scope results (calls_after verified flag rest ret outer)
          (stack_kinds (stack_past (first_item rest ret).item next stack))
      typed_after flag next End (below, own, gives, e, same, proper, out) = grind arith
      typed_after flag next (Do item line rest) (below, own, gives, e, h, proper, out) =
          typed_item rest below h.0 gives h.2 h.5 proper.1 out next stack h.1
          (regrouped (stack_kinds stack) below h.0 h.1 own e h.4) item proper.0 h.3
      typed_after flag next (Choice line first second end rest) (below, own, gives, e, h, proper, out) =
          grind (arith, common_steps, kinds_then, proper_then)

      -- a call that is typed can go on
      pub runs_at : (rest : Body) →
          AreTyped scope results (record { rest = rest; ret = ret } ∷ outer) (stack_kinds stack) →
          can_run verified (first_item rest ret).item stack ≡ true
      runs_at End (below, own, gives, e, same, proper, out) = cc
      runs_at (Do item line rest) (below, own, gives, e, h, proper, out) =
          runs stack (below ++ h.0) h.1 h.2 (regrouped (stack_kinds stack) below h.0 h.1 own e h.4) item h.3
      runs_at (Choice line first second end rest) (below, own, gives, e, h, proper, out) =
          tops stack (below ++ h.0) (kind.Bool ∷ []) (kind.Bool ∷ []) refl
          (regrouped (stack_kinds stack) below h.0 (kind.Bool ∷ []) own e h.2)

-- ---- states

abbrev pub IsTyped : List Signature → Task → State → Type 0
IsTyped signatures task s =
    (1 ≤ length s.calls) × AreTyped (scope_of signatures task.verified.program) task.verified.results s.calls
    (stack_kinds s.stack)

module _ (signatures : List Signature) (task : Task) where
  typed_next : (s next : State) → IsVerifiedTask signatures task → IsTyped signatures task s → Went task s next →
      IsTyped signatures task next
  typed_next s next v typed w = grind (arith, typed_after)

  typed_first : IsVerifiedTask signatures task → IsTyped signatures task (first_state task.verified)
  typed_first v =
      let scope = scope_of signatures task.verified.program in
      let results = task.verified.results in
      let main = callee signatures task.verified v main_name [] results v.by_signatures.results
      v.by_signatures.well_kinded.main in
      grind arith

  pub typed : IsVerifiedTask signatures task → (n : ℕ) (s : State) → state_after task n ≡ Running s →
      IsTyped signatures task s
  typed v zero s e = grind (arith, typed_first)
  typed v (suc n) s e =
      let from = running_from task (state_after task n) s e in
      typed_next from.0 s v (typed v n from.0 from.1) (went task from.0 s from.2)

  -- ---- never stuck

  step_stuck : (s : State) → IsVerifiedTask signatures task → IsTyped signatures task s → next_progress task s ≡ Stuck →
      ⊥
  step_stuck s v t e =
      let can : (call : Active) (outer : List Active) → s.calls ≡ call ∷ outer →
      can_run task.verified (item_of call) s.stack ≡ true =
      λ call outer calls. runs_at signatures task.verified v task.verified.results call.ret outer s.stack call.rest
      (rw calls at t.1) in
      let some = t.0 in
      let h = goes task s in
      grind arith

  pub never_stuck : IsVerifiedTask signatures task → (n : ℕ) → state_after task n ≡ Stuck → ⊥
  never_stuck v =
      by_runs task (λ p. p ≡ Stuck → ⊥) (running_stuck (first_state task.verified))
      (λ n s is. step_stuck s v (typed v n s is))
