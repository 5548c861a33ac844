-- The walk over the lines of a body: what each line gives, and that all give what the body gives.
use Rattle.std.proofs.Common.{◌≡◌, refl, sym, ap, ◌∙◌, List, [], ◌∷◌, ◌++◌, Result, Ok, Err, append_assoc, arith}
use Rattle.std.proofs.Common.{append-nil, ℕ, Option, Some, inl, inr}
use Rattle.std.specs.List.{slice_get}
use Rattle.std.specs.Prelude.{IsErr}
use Rattle.vcode_base.specs.declared.fault.TextFault.{TextFault}
use Rattle.vcode_base.specs.declared.fault.TextFault.TheVariants.{Memory, At}
use Rattle.vcode_base.specs.declared.instr.Instr.TheVariants.{Move, Call}
use Rattle.vcode_base.specs.declared.kind.Kind.{Kind}
use Rattle.vcode_reader.specs.Callees.{callee_of, callee_at}
use Rattle.vcode_reader.specs.declared.line.CodeItem.{CodeItem}
use Rattle.vcode_reader.specs.declared.line.CodeItem.TheVariants as code_item
use Rattle.vcode_reader.specs.Trees.{Item, Body, End, Do, Choice, CodeLine, Function, body_lines, lines_of}
use Rattle.verifier.specs.declared.fault.KindFault.{KindFault}
use Rattle.verifier.specs.Faults.{Fault}
use Rattle.verifier.specs.First.{stack_after_body, ◌>>=◌}
use Rattle.verifier.specs.Kinded.{Scope}
use Rattle.verifier.specs.Steps.{DoesIf, DoesLine}
use Rattle.verifier.specs.Walk.{State, state_with, state_after_line, state_after_lines, StepGoes, CallGoes, Goes}
use Rattle.verifier.proofs.Callees.{callee_is}

pub fault_stays : (scope : Scope) (f : Fault) (xs : List CodeLine) → state_after_lines scope (Err f) xs ≡ Err f
fault_stays scope f [] = refl
fault_stays scope f (x ∷ xs) = fault_stays scope f xs

-- the state after lines, with these lists kept before and after an answer
abbrev after : Scope → List (List Kind) → Result (List Kind) Fault → List CodeLine → Result State Fault
after scope kept r lines = state_after_lines scope (state_with kept r) lines

-- a body walked from these entries, with these lists kept, gives what it gives by itself
abbrev IsWalked : Scope → Body → List Kind → List (List Kind) → List CodeLine → Type 0
IsWalked scope b ks kept rest =
    after scope kept (Ok ks) (body_lines b ++ rest) ≡ after scope kept (stack_after_body scope b ks) rest

is_walked : (scope : Scope) (b : Body) (ks : List Kind) (kept : List (List Kind)) (rest : List CodeLine)
    → IsWalked scope b ks kept rest
is_walked scope End ks kept rest = refl
is_walked scope (Do item line b) ks kept rest = grind (arith, fault_stays, is_walked scope b)
is_walked scope (Choice line x y end b) ks kept rest =
    grind (arith, append_assoc, fault_stays, is_walked scope b, is_walked scope x, is_walked scope y)

-- the whole walk over a body
pub walk_over_body : (scope : Scope) (b : Body) (ks : List Kind)
    → state_after_lines scope (Ok (record { kinds = ks; kept = [] })) (body_lines b)
    ≡ state_with [] (stack_after_body scope b ks)
walk_over_body scope b ks = ap (after scope [] (Ok ks)) (sym (append-nil (body_lines b))) ∙ is_walked scope b ks [] []

-- ---- a line

-- an IF goes on after its BOOL
goes_on : (wanted : Result State Fault) (next : State → Result State Fault)
    (r : Result (Unit {0}) (TextFault KindFault)) (new : State) → Goes r new wanted → IsErr r
    → Goes r new (wanted >>= next)
goes_on wanted next (Ok x) new h err = absurd (cc)
goes_on wanted next (Err Memory) new h err = tt
goes_on wanted next (Err (At fault line)) new h err = rw h refl

if_goes : (line : ℕ) (old new : State) (r : Result (Unit {0}) (TextFault KindFault))
    → DoesIf StepGoes line old r new → (scope : Scope) → Goes r new (state_after_line scope code_item.If line old)
if_goes line old new r (inl (err, h)) scope = goes_on _ _ r new h err
if_goes line old new r (inr (between, first, second)) scope = rw first second

item_goes : (scope : Scope) (callee : Option ℕ) (item : CodeItem Item) (line : ℕ) (old new : State)
    (r : Result (Unit {0}) (TextFault KindFault)) → callee ≡ callee_of scope.functions item
    → DoesLine StepGoes (CallGoes scope callee) item line old r new → Goes r new (state_after_line scope item line old)
item_goes scope callee (code_item.Do (Move motion i j)) line old new r e h = h
item_goes scope callee (code_item.Do (Call name)) line old new r e h = h e
item_goes scope callee (code_item.Do item) line old new r e h = h
item_goes scope callee code_item.If line old new r e h = if_goes line old new r h scope
item_goes scope callee code_item.Else line old new r e h = h
item_goes scope callee code_item.Endif line old new r e h = h

-- what the line at a place does, with the callee there
pub line_goes : (scope : Scope) (fs : List Function) (function place : ℕ) (f : Function) (x : CodeLine)
    (old new : State) (r : Result (Unit {0}) (TextFault KindFault)) → fs ≡ scope.functions
    → slice_get scope.functions function ≡ Some f → slice_get (lines_of f) place ≡ Some x
    → DoesLine StepGoes (CallGoes scope (callee_at fs function place)) x.item x.number old r new
    → Goes r new (state_after_line scope x.item x.number old)
line_goes scope fs function place f x old new r same hf hx h =
    let callee = callee_is scope.functions function place f x hf hx in
    item_goes scope _ x.item x.number old new r (ap (λ gs. callee_at gs function place) same ∙ callee) h
