-- A program has no kind fault exactly if it is well kinded.
use Rattle.std.proofs.Common.{◌≡◌, ◌∙◌, ℕ, ◌+◌, ◌-◌, ◌≤◌, Bool, true, cond, refl, sym, ap, arith, List, [], ◌∷◌, ◌++◌}
use Rattle.std.proofs.Common.{length, take, drop, length-append, take-append-drop, append-nil, Option, Some, None}
use Rattle.std.proofs.Common.{Result, Ok, Err}
use Rattle.std.proofs.Math.Seq.{drop-append_seam, take-append_seam}
use Rattle.std.specs.Prelude.{All, IsTrue, MatchOption}
use Rattle.std.proofs.lemmas.Bool.Decides.{nat_tests}
use Rattle.std.proofs.lemmas.Slice.Eq.{bytes_eq-Decides}
use Rattle.std.proofs.lemmas.List.{length-take-le, length-drop}
use Rattle.std.proofs.lemmas.List.Elements.{All-nil, All-cons, All-head, All-tail}
use Rattle.vcode_base.specs.declared.kind.Kind.{Kind}
use Rattle.vcode_base.specs.declared.kind.Kind.TheVariants as kind
use Rattle.vcode_base.specs.declared.op.StackMove.{StackMove}
use Rattle.vcode_base.specs.declared.instr.Instr.TheVariants.{Move, Call}
use Rattle.vcode_base.specs.Motions.{entries_after_move}
use Rattle.vcode_base.specs.Names.{main_name}
use Rattle.vcode_reader.specs.Trees.{Item, Body, End, Do, Choice, Function, Program}
use Rattle.signatures.specs.Signatures.{Signature, kinds_of}
use Rattle.verifier.specs.declared.fault.KindFault.{KindFault}
use Rattle.verifier.specs.Faults.{Fault}
use Rattle.verifier.specs.First.{stack_after_arrow, stack_after_move, arrow_of, stack_after_call}
use Rattle.verifier.specs.First.{stack_after_instruction, stack_after_endif, stack_after_body, fault_at_return, ◌>>=◌}
use Rattle.verifier.specs.First.{is_main, fault_by_signature, function_fault, functions_fault, kind_fault}
use Rattle.verifier.specs.Kinded.{Scope, Turns, HasKinds, FitsSignature, IsWellKinded, has_function, scope_of}
use Rattle.verifier.specs.Laws.{NoFaultWhereWellKinded}
use Rattle.verifier.proofs.SameKinds.{are_same_kinds-Decides}

bind_ok : {A B : Type 0} (r : Result A Fault) (f : A → Result B Fault) (y : B) → (r >>= f) ≡ Ok y
    → (x : A) × (r ≡ Ok x) × (f x ≡ Ok y)
bind_ok (Ok x) f y h = (x, refl, h)
bind_ok (Err e) f y h = absurd (cc)

-- ---- an instruction

-- an instruction turns entries on others that stay
abbrev Runs : Scope → Item → List Kind → List Kind → Type 0
Runs scope item ks out =
    (rest takes gives : List Kind) × Turns scope item takes gives × (ks ≡ rest ++ takes) × (out ≡ rest ++ gives)

arrow_replaces : (takes gives : List Kind) (line : ℕ) (ks out : List Kind)
    → stack_after_arrow takes gives line ks ≡ Ok out
    → (rest : List Kind) × (ks ≡ rest ++ takes) × (out ≡ rest ++ gives)
unfolding stack_after_arrow
arrow_replaces takes gives line ks out h =
    (take (length ks - length takes) ks, grind (arith, are_same_kinds-Decides, take-append-drop), grind arith)

arrow_on : (takes gives rest : List Kind) (line : ℕ) → stack_after_arrow takes gives line (rest ++ takes)
    ≡ Ok (rest ++ gives)
unfolding stack_after_arrow
arrow_on takes gives rest line =
    let long = length-append rest takes in
    let place : length (rest ++ takes) - length takes ≡ length rest = omega (arith, long) in
    rw (place, drop-append_seam rest takes, take-append_seam rest takes)
    (grind (arith, nat_tests, are_same_kinds-Decides, long))

-- one that takes the same kinds at every use
arrow_runs : (scope : Scope) (item : Item) (takes gives : List Kind) (line : ℕ) (ks out : List Kind)
    → Turns scope item takes gives → stack_after_arrow takes gives line ks ≡ Ok out → Runs scope item ks out
arrow_runs scope item takes gives line ks out turns h =
    let (rest, before, after) = arrow_replaces takes gives line ks out h in (rest, takes, gives, turns, before, after)

move_runs : (scope : Scope) (motion : StackMove) (i j line : ℕ) (ks out : List Kind)
    → stack_after_move motion i j line ks ≡ Ok out → Runs scope (Move motion i j) ks out
unfolding stack_after_move
move_runs scope motion i j line ks out h =
    let n = length ks - (i + j) in
    let lower = take i (drop n ks) in
    let upper = drop i (drop n ks) in
    let enough : i + j ≤ length ks = grind (arith, nat_tests) in
    let long = length-drop n ks in (
      take n ks,
      lower ++ upper,
      entries_after_move motion lower upper,
      (
        lower,
        upper,
        length-take-le i (drop n ks) (omega (arith, long)),
        omega (arith, long, length-drop i (drop n ks)),
        refl,
        refl,
      ),
      grind (arith, take-append-drop),
      grind arith,
    )

move_on : (motion : StackMove) (line : ℕ) (rest lower upper : List Kind)
    → stack_after_move motion (length lower) (length upper) line (rest ++ (lower ++ upper))
    ≡ Ok (rest ++ entries_after_move motion lower upper)
unfolding stack_after_move
move_on motion line rest lower upper =
    let both = length-append lower upper in
    let long = length-append rest (lower ++ upper) in
    let place : length (rest ++ (lower ++ upper)) - (length lower + length upper) ≡ length rest =
    omega (arith, long, both) in
    rw (
      place,
      drop-append_seam rest (lower ++ upper),
      take-append_seam rest (lower ++ upper),
      take-append_seam lower upper,
      drop-append_seam lower upper,
    )
    (grind (arith, nat_tests, long, both))

arrow_known : (scope : Scope) (name : List ℕ) (takes gives : List Kind) → arrow_of scope name ≡ Ok (takes, gives)
    → Turns scope (Call name) takes gives
unfolding arrow_of
arrow_known scope name takes gives h = grind arith

call_runs : (scope : Scope) (name : List ℕ) (r : Result (List Kind × List Kind) KindFault) (line : ℕ)
    (ks out : List Kind) → arrow_of scope name ≡ r → stack_after_call r line ks ≡ Ok out → Runs scope (Call name) ks out
call_runs scope name (Ok (takes, gives)) line ks out e h =
    arrow_runs scope (Call name) takes gives line ks out (arrow_known scope name takes gives e) h
call_runs scope name (Err fault) line ks out e h = absurd (cc)

instruction_runs : (scope : Scope) (item : Item) (line : ℕ) (ks out : List Kind)
    → stack_after_instruction scope item line ks ≡ Ok out → Runs scope item ks out
instruction_runs scope (Move motion i j) line ks out h = move_runs scope motion i j line ks out h
instruction_runs scope (Call name) line ks out h = call_runs scope name _ line ks out refl h
instruction_runs scope item line ks out h = arrow_runs scope item _ _ line ks out (refl, refl) h

instruction_on : (scope : Scope) (item : Item) (line : ℕ) (rest takes gives : List Kind) → Turns scope item takes gives
    → stack_after_instruction scope item line (rest ++ takes) ≡ Ok (rest ++ gives)
unfolding arrow_of
instruction_on scope item line rest takes gives h = grind (arith, arrow_on, move_on)

-- ---- a body

endif_ok : (end : ℕ) (a b out : List Kind) → stack_after_endif end a b ≡ Ok out → (a ≡ b) × (b ≡ out)
unfolding stack_after_endif
endif_ok end a b out h = grind (arith, are_same_kinds-Decides)

pub body_has_kinds : (scope : Scope) (b : Body) (before after : List Kind) → stack_after_body scope b before ≡ Ok after
    → HasKinds scope b before after
body_has_kinds scope End before after h = cc
body_has_kinds scope (Do item line b) before after h =
    let (next, e, f) = bind_ok _ _ _ h in
    let (rest, takes, gives, turns, p, q) = instruction_runs scope item line before next e in
    (rest, takes, gives, turns, p, body_has_kinds scope b (rest ++ gives) after (rw q at f))
body_has_kinds scope (Choice line x y end b) before after h =
    let (rest, p, h1) = bind_ok _ _ _ h in
    let (one, q, h2) = bind_ok _ _ _ h1 in
    let (other, r, h3) = bind_ok _ _ _ h2 in
    let (z, s, h4) = bind_ok _ _ _ h3 in
    let flag = arrow_replaces (kind.Bool ∷ []) [] line before rest p in
    let same = endif_ok end one other z s in (
      rest,
      other,
      flag.1 ∙ ap (λ z. z ++ kind.Bool ∷ []) (sym (flag.2 ∙ append-nil flag.0)),
      body_has_kinds scope x rest other (q ∙ ap (λ w. Ok w) same.0),
      body_has_kinds scope y rest other r,
      body_has_kinds scope b other after (ap (stack_after_body scope b) same.1 ∙ h4),
    )

pub has_kinds_body : (scope : Scope) (b : Body) (before after : List Kind) → HasKinds scope b before after
    → stack_after_body scope b before ≡ Ok after
unfolding stack_after_endif
has_kinds_body scope End before after h = rw h refl
has_kinds_body scope (Do item line b) before after (rest, takes, gives, turns, e, h) =
    rw (e, instruction_on scope item line rest takes gives turns) (has_kinds_body scope b (rest ++ gives) after h)
has_kinds_body scope (Choice line x y end b) before after (rest, next, p, hx, hy, hb) =
    rw (
      p,
      arrow_on (kind.Bool ∷ []) [] rest line,
      append-nil rest,
      has_kinds_body scope x rest next hx,
      has_kinds_body scope y rest next hy,
      (are_same_kinds-Decides next next).1 refl,
    )
    (has_kinds_body scope b next after hb)

-- ---- a function

returned : (t : Bool) (x : Fault) (gives : List Kind) (ret : ℕ) (r : Result (List Kind) Fault)
    → cond t (Some x) (fault_at_return gives ret r) ≡ None → r ≡ Ok gives
returned t x gives ret r h = grind (arith, are_same_kinds-Decides)

fits : (scope : Scope) (f : Function) (o : Option (List Kind × List Kind))
    → kinds_of scope.signatures f.name ≡ o → fault_by_signature scope f o ≡ None → FitsSignature scope f
fits scope f None e h = absurd (cc)
fits scope f (Some (takes, gives)) e h =
    (takes, gives, e, body_has_kinds scope f.body takes gives (returned _ _ gives f.ret _ h))

no_fault : (scope : Scope) (f : Function) (takes gives : List Kind)
    → kinds_of scope.signatures f.name ≡ Some (takes, gives) → HasKinds scope f.body takes gives
    → (is_main f ≡ true → takes ≡ []) → function_fault scope f ≡ None
unfolding function_fault
no_fault scope f takes gives signature body alone =
    rw (signature, has_kinds_body scope f.body takes gives body) (grind (arith, are_same_kinds-Decides))

-- MAIN has a signature, and takes nothing by it
abbrev TakesNothing : Option (List Kind × List Kind) → Type 0
TakesNothing o = MatchOption o ⊥ (λ arrow. arrow.0 ≡ [])

of_main : (scope : Scope) (f : Function) (o : Option (List Kind × List Kind)) → is_main f ≡ true
    → fault_by_signature scope f o ≡ None → TakesNothing o
of_main scope f o main h = grind arith

-- ---- a program

main_takes : (scope : Scope) (fs : List Function) → functions_fault scope fs ≡ None
    → IsTrue (has_function main_name fs) → TakesNothing (kinds_of scope.signatures main_name)
unfolding function_fault
main_takes scope [] h has = absurd (cc)
main_takes scope (f ∷ fs) h has = grind (arith, bytes_eq-Decides, of_main, main_takes scope fs)

all_fit : (scope : Scope) (fs : List Function) → functions_fault scope fs ≡ None → All (FitsSignature scope) fs
unfolding function_fault
all_fit scope [] h = All-nil (FitsSignature scope)
all_fit scope (f ∷ fs) h =
    let parts : (function_fault scope f ≡ None) × (functions_fault scope fs ≡ None) = (grind arith, grind arith) in
    All-cons (FitsSignature scope) f fs (fits scope f _ refl parts.0) (all_fit scope fs parts.1)

no_faults : (scope : Scope) (fs : List Function)
    → ((takes gives : List Kind) → kinds_of scope.signatures main_name ≡ Some (takes, gives) → takes ≡ [])
    → All (FitsSignature scope) fs → functions_fault scope fs ≡ None
no_faults scope [] main h = refl
no_faults scope (f ∷ fs) main h =
    let (takes, gives, signature, body) = All-head (FitsSignature scope) f fs h in
    let alone : is_main f ≡ true → takes ≡ [] =
    λ e. main takes gives (ap (kinds_of scope.signatures) (sym ((bytes_eq-Decides f.name main_name).0 e)) ∙ signature)
    in
    rw (no_fault scope f takes gives signature body alone)
    (no_faults scope fs main (All-tail (FitsSignature scope) f fs h))

-- the program is well kinded, and its MAIN has a signature, by which it takes nothing
pub record HasNoFault (signatures : List Signature) (program : Program) : Type 0 where
  pub well_kinded : IsWellKinded signatures program
  pub main : (gives : List Kind) × (kinds_of signatures main_name ≡ Some ([], gives))

takes_nothing : (o : Option (List Kind × List Kind)) → TakesNothing o → (gives : List Kind) × (o ≡ Some ([], gives))
takes_nothing None h = absurd h
takes_nothing (Some (takes, gives)) h = (gives, rw h)

pub has_no_fault : (signatures : List Signature) (program : Program) → kind_fault signatures program ≡ None
    → HasNoFault signatures program
unfolding kind_fault
has_no_fault signatures program h =
    let fs = program.functions in
    let scope = scope_of signatures program in
    let none : functions_fault scope fs ≡ None = grind arith in
    let has : IsTrue (has_function main_name fs) = grind arith in
    let main = takes_nothing _ (main_takes scope fs none has) in
    record {
      well_kinded = record {
        main = has;
        takes_nothing = λ takes gives e. grind (arith, main.1, e);
        functions = all_fit scope fs none;
      };
      main = main;
    }

pub no_fault_where_well_kinded : NoFaultWhereWellKinded
unfolding kind_fault
no_fault_where_well_kinded signatures program = (
  λ h. (has_no_fault signatures program h).well_kinded,
  λ h. rw h.main (no_faults (scope_of signatures program) program.functions h.takes_nothing h.functions),
)
