-- The body and the RET among a function's lines, and what the walk over the body says of the function.
use Rattle.std.proofs.Common.{◌≡◌, ℕ, zero, suc, add-one, ◌+◌, ◌-◌, ◌<◌, ◌≤◌, refl, arith, List, [], ◌∷◌, ◌++◌, length}
use Rattle.std.proofs.Common.{take, drop, get_or, length-append, Option, Some, Ok}
use Rattle.std.proofs.Math.Seq.{take-append_seam}
use Rattle.std.proofs.lemmas.List.{drop_all, length-take}
use Rattle.std.proofs.lemmas.Grind.{common_steps}
use Rattle.std.proofs.lemmas.Option.{none-some}
use Rattle.std.specs.List.{slice_get}
use Rattle.std.specs.Prelude.{IfSome}
use Rattle.vcode_base.specs.declared.fault.TextFault.{TextFault}
use Rattle.vcode_base.specs.declared.kind.Kind.{Kind}
use Rattle.vcode_base.specs.declared.instr.Instr.TheVariants.{Return}
use Rattle.vcode_reader.specs.Trees.{Function, CodeLine, instruction_line, body_lines, lines_of}
use Rattle.verifier.specs.declared.fault.KindFault.{KindFault}
use Rattle.verifier.specs.Faults.{Fault}
use Rattle.verifier.specs.First.{stack_after_body, function_fault, functions_fault, FaultIs}
use Rattle.verifier.specs.Kinded.{Scope}
use Rattle.verifier.specs.Walk.{front_of, state_with, state_after_lines}
use Rattle.verifier.proofs.Walks.{walk_over_body, fault_stays}

-- ---- a function's lines

front_is : (f : Function) → front_of f ≡ body_lines f.body
front_is f =
    let ret = instruction_line Return f.ret in
    let less : length (lines_of f) - 1 ≡ length (body_lines f.body) =
    omega (arith, length-append (body_lines f.body) (ret ∷ [])) in
    rw less (take-append_seam (body_lines f.body) (ret ∷ []))

pub some_line : (f : Function) → 1 ≤ length (lines_of f)
some_line f = omega (arith, length-append (body_lines f.body) (instruction_line Return f.ret ∷ []))

at_end : (xs : List CodeLine) (x : CodeLine) → slice_get (xs ++ x ∷ []) (length xs) ≡ Some x
at_end [] x = refl
at_end (y ∷ xs) x = at_end xs x

-- the last line
pub last_line : (f : Function)
    → slice_get (lines_of f) (length (lines_of f) - 1) ≡ Some (instruction_line Return f.ret)
last_line f =
    let ret = instruction_line Return f.ret in
    let less : length (lines_of f) - 1 ≡ length (body_lines f.body) =
    omega (arith, length-append (body_lines f.body) (ret ∷ [])) in
    rw less (at_end (body_lines f.body) ret)

-- the line at a place among the first ones
pub front_at : {A : Type 0} (xs : List A) (n place : ℕ) (x : A) → place < n → slice_get xs place ≡ Some x
    → drop place (take n xs) ≡ x ∷ drop (place + 1) (take n xs)
front_at [] n place x lt e = absurd (none-some x e)
front_at (y ∷ xs) zero place x lt e = absurd (omega arith)
front_at (y ∷ xs) (suc n) zero x lt e = grind arith
front_at (y ∷ xs) (suc n) (suc place) x lt e = rw add-one (rw add-one at (front_at xs n place x (omega arith) e))

-- the lines from a place on
pub next_line : (f : Function) (place : ℕ) → (slice_get (lines_of f) place ≡ slice_get (lines_of f) place)
    × IfSome (slice_get (lines_of f) place) (λ x. place < length (lines_of f) - 1
    → drop place (front_of f) ≡ x ∷ drop (place + 1) (front_of f))
next_line f place = (refl, grind (arith, front_at))

pub front_end : (f : Function) (place : ℕ) → length (lines_of f) - 1 ≤ place → drop place (front_of f) ≡ []
front_end f place past =
    drop_all place (front_of f) (omega (arith, length-take (length (lines_of f) - 1) (lines_of f)))

-- the walk over the lines before the last gives what the body gives
pub walk_is : (scope : Scope) (f : Function) (takes : List Kind)
    → (stack_after_body scope f.body takes ≡ stack_after_body scope f.body takes)
    × (state_after_lines scope (Ok (record { kinds = takes; kept = [] })) (front_of f)
    ≡ state_with [] (stack_after_body scope f.body takes))
walk_is scope f takes = (refl, rw (front_is f) (walk_over_body scope f.body takes))

-- ---- the fault of a function

-- if the functions before the one at a place have no fault, its fault is the first of all
pub first_fails : (v : TextFault KindFault) (scope : Scope) (all : Option Fault) (fs items : List Function) (i : ℕ)
    (f : Function) → all ≡ functions_fault scope (drop i fs) → items ≡ fs → i < length items → f ≡ get_or items i f
    → FaultIs v (function_fault scope f) → FaultIs v all
first_fails v scope all fs items i f e same lt is k = grind (arith, common_steps)

pub ruleset code_lines = (some_line, last_line, next_line, front_end, fault_stays)
