-- The first kind fault of a program n lines further on is the first of the program, n lines further on.
use Rattle.std.proofs.Common.{◌≡◌, ◌+◌, ℕ, Bool, List, [], ◌∷◌, refl, ap, ◌∙◌, arith, Option, Some, None}
use Rattle.std.proofs.Common.{Result, Ok, Err}
use Rattle.std.specs.Prelude.{is_some, map, option_map, if◌then◌else◌}
use Rattle.vcode_base.specs.declared.kind.Kind.{Kind}
use Rattle.vcode_base.specs.declared.kind.Kind.TheVariants as kind
use Rattle.vcode_base.specs.declared.op.StackMove.{StackMove}
use Rattle.vcode_base.specs.Choices.{or_else}
use Rattle.vcode_base.specs.Kinds.{are_same_kinds}
use Rattle.vcode_base.specs.Names.{main_name}
use Rattle.vcode_reader.specs.Trees.{Item, Body, End, Do, Choice, Function}
use Rattle.signatures.specs.Signatures.{kinds_of}
use Rattle.verifier.specs.declared.fault.KindFault.{KindFault}
use Rattle.verifier.specs.declared.fault.KindFault.TheVariants.{ArmsDiffer}
use Rattle.verifier.specs.declared.fault.KindFault.TheVariants.{NoMain}
use Rattle.verifier.specs.Faults.{Fault}
use Rattle.verifier.specs.First.{◌>>=◌, arrow_of, fault_at_return, fault_by_signature, function_fault}
use Rattle.verifier.specs.First.{functions_fault, is_main_with_operands, kind_fault, stack_after_arrow}
use Rattle.verifier.specs.First.{stack_after_body}
use Rattle.verifier.specs.First.{stack_after_call, stack_after_endif, stack_after_instruction, stack_after_move}
use Rattle.verifier.specs.Kinded.{Scope, has_function, scope_of}
use Rattle.report_laws.specs.Laws.{KindsMove}
use Rattle.report_laws.specs.MovedCode.{fault_further_on, further_on, moved_body, moved_function}
use Rattle.report_laws.proofs.RunLemmas.{same_position}

-- ---- choices

module _ (n : ℕ) where
  either_moved : (few : Bool) (one : KindFault) (line : ℕ) (r s : Result (List Kind) Fault) → s ≡ further_on n r
      → if few then Err (one, line + n) else s ≡ further_on n (if few then Err (one, line) else r)
  either_moved few one line r s h1 = grind arith

  same_moved : (same : Bool) (fault : KindFault) (line : ℕ) (ks : List Kind)
      → if same then Ok ks else Err (fault, line + n) ≡ further_on n (if same then Ok ks else Err (fault, line))
  same_moved same fault line ks = grind arith

  bound : {A B : Type 0} (r : Result A Fault) (f g : A → Result B Fault) → ((x : A) → g x ≡ further_on n (f x))
      → further_on n r >>= g ≡ further_on n (r >>= f)
  bound r f g h1 = grind arith

  bind_moved : {A B : Type 0} (r s : Result A Fault) (f g : A → Result B Fault) → s ≡ further_on n r
      → ((x : A) → g x ≡ further_on n (f x)) → s >>= g ≡ further_on n (r >>= f)
  bind_moved {A} r s f g e h = ap (λ (t : Result A Fault). t >>= g) e ∙ bound r f g h

  none_or_moved : (same : Bool) (fault : KindFault) (line : ℕ)
      → if same then None else Some (fault, line + n)
      ≡ option_map (fault_further_on n) (if same then None else Some (fault, line))
  none_or_moved same fault line = grind arith

  some_or_moved : (b : Bool) (fault : KindFault) (line : ℕ) (o p : Option Fault)
      → p ≡ option_map (fault_further_on n) o
      → if b then Some (fault, line + n) else p
      ≡ option_map (fault_further_on n) (if b then Some (fault, line) else o)
  some_or_moved b fault line o p h1 = grind arith

  or_moved : (a b : Option Fault)
      → or_else (option_map (fault_further_on n) a) (option_map (fault_further_on n) b)
      ≡ option_map (fault_further_on n) (or_else a b)
  or_moved a b = grind arith

  return_moved : (gives : List Kind) (ret : ℕ) (r : Result (List Kind) Fault)
      → fault_at_return gives (ret + n) (further_on n r)
      ≡ option_map (fault_further_on n) (fault_at_return gives ret r)
  return_moved gives ret r = grind (arith, none_or_moved)

  arrow_after : (takes gives : List Kind) (line : ℕ) (ks : List Kind)
      → stack_after_arrow takes gives (line + n) ks ≡ further_on n (stack_after_arrow takes gives line ks)
  unfolding stack_after_arrow
  arrow_after takes gives line ks = grind (arith, either_moved, same_moved)

  move_moved : (motion : StackMove) (i j line : ℕ) (ks : List Kind)
      → stack_after_move motion i j (line + n) ks ≡ further_on n (stack_after_move motion i j line ks)
  unfolding stack_after_move
  move_moved motion i j line ks = grind (arith, either_moved)

  call_moved : (r : Result (List Kind × List Kind) KindFault) (line : ℕ) (ks : List Kind)
      → stack_after_call r (line + n) ks ≡ further_on n (stack_after_call r line ks)
  call_moved r line ks = grind (arith, arrow_after)

  endif_moved : (end : ℕ) (first second : List Kind)
      → stack_after_endif (end + n) first second ≡ further_on n (stack_after_endif end first second)
  unfolding stack_after_endif
  endif_moved end first second = same_moved (are_same_kinds first second) ArmsDiffer end second

  -- ---- bodies

  abbrev scope_on : Scope → Scope
  scope_on scope = record { functions = map (moved_function n) scope.functions; signatures = scope.signatures }

  module _ (scope : Scope) where
    arrow_moved : (name : List ℕ) → arrow_of (scope_on scope) name ≡ arrow_of scope name
    unfolding arrow_of
    arrow_moved name = grind (arith, same_position)

    instruction_moved : (item : Item) (line : ℕ) (ks : List Kind)
        → stack_after_instruction (scope_on scope) item (line + n) ks
        ≡ further_on n (stack_after_instruction scope item line ks)
    instruction_moved item line ks = grind (arith, move_moved, arrow_moved, call_moved, arrow_after)

    body_moved : (b : Body) (ks : List Kind)
        → stack_after_body (scope_on scope) (moved_body n b) ks ≡ further_on n (stack_after_body scope b ks)
    body_moved End ks = refl
    body_moved (Do item line rest) ks =
        bind_moved (stack_after_instruction scope item line ks)
        (stack_after_instruction (scope_on scope) item (line + n) ks) (stack_after_body scope rest)
        (stack_after_body (scope_on scope) (moved_body n rest)) (instruction_moved item line ks) (body_moved rest)
    body_moved (Choice line first second end rest) ks =
        bind_moved (stack_after_arrow (kind.Bool ∷ []) [] line ks) (stack_after_arrow (kind.Bool ∷ []) [] (line + n) ks)
        (λ (ls : List Kind). stack_after_body scope first ls >>= λ (one : List Kind). stack_after_body scope second ls
        >>= λ (two : List Kind). stack_after_endif end one two >>= stack_after_body scope rest)
        (λ (ls : List Kind). stack_after_body (scope_on scope) (moved_body n first) ls
        >>= λ (one : List Kind). stack_after_body (scope_on scope) (moved_body n second) ls
        >>= λ (two : List Kind). stack_after_endif (end + n) one two
        >>= stack_after_body (scope_on scope) (moved_body n rest))
        (arrow_after (kind.Bool ∷ []) [] line ks)
        (λ (ls : List Kind). bind_moved (stack_after_body scope first ls)
        (stack_after_body (scope_on scope) (moved_body n first) ls)
        (λ (one : List Kind). stack_after_body scope second ls
        >>= λ (two : List Kind). stack_after_endif end one two >>= stack_after_body scope rest)
        (λ (one : List Kind). stack_after_body (scope_on scope) (moved_body n second) ls
        >>= λ (two : List Kind). stack_after_endif (end + n) one two
        >>= stack_after_body (scope_on scope) (moved_body n rest))
        (body_moved first ls)
        (λ (one : List Kind). bind_moved (stack_after_body scope second ls)
        (stack_after_body (scope_on scope) (moved_body n second) ls)
        (λ (two : List Kind). stack_after_endif end one two >>= stack_after_body scope rest)
        (λ (two : List Kind). stack_after_endif (end + n) one two
        >>= stack_after_body (scope_on scope) (moved_body n rest))
        (body_moved second ls)
        (λ (two : List Kind). bind_moved (stack_after_endif end one two) (stack_after_endif (end + n) one two)
        (stack_after_body scope rest) (stack_after_body (scope_on scope) (moved_body n rest))
        (endif_moved end one two) (body_moved rest))))

    -- ---- functions

    main_moved : (f : Function) (takes : List Kind)
        → is_main_with_operands (moved_function n f) takes ≡ is_main_with_operands f takes
    main_moved f takes = grind arith

    by_signature_moved : (f : Function) (arrow : Option (List Kind × List Kind))
        → fault_by_signature (scope_on scope) (moved_function n f) arrow
        ≡ option_map (fault_further_on n) (fault_by_signature scope f arrow)
    by_signature_moved f arrow = grind (arith, main_moved, some_or_moved, body_moved, return_moved)

    function_moved : (f : Function)
        → function_fault (scope_on scope) (moved_function n f)
        ≡ option_map (fault_further_on n) (function_fault scope f)
    unfolding function_fault
    function_moved f = by_signature_moved f (kinds_of scope.signatures f.name)

    functions_moved : (fs : List Function)
        → functions_fault (scope_on scope) (map (moved_function n) fs)
        ≡ option_map (fault_further_on n) (functions_fault scope fs)
    functions_moved [] = refl
    functions_moved (f ∷ fs) = grind (arith, function_moved, or_moved, functions_moved fs)

  found_moved : (has : Bool) (line : ℕ) (o p : Option Fault) → p ≡ option_map (fault_further_on n) o
      → if has then p else Some (NoMain, line + n)
      ≡ option_map (fault_further_on n) (if has then o else Some (NoMain, line))
  found_moved has line o p h1 = grind arith

pub kinds_move : KindsMove
unfolding kind_fault
kinds_move n signatures program =
    let scope : Scope = scope_of signatures program in
    let next : Option Fault = functions_fault (scope_on n scope) (map (moved_function n) program.functions) in
    ap (λ (b : Bool). if b then next else Some (NoMain, program.first_line + n))
    (ap is_some (same_position n main_name program.functions))
    ∙ found_moved n (has_function main_name program.functions) program.first_line
    (functions_fault scope program.functions) next (functions_moved n scope program.functions)
