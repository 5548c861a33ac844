-- When a program is well kinded: which kinds each instruction takes from the stack and leaves there, by cases on the
-- tree.
use Rattle.std.specs.Prelude.{◌≡◌, ℕ, IsTrue, Bool, List, [], ◌∷◌, ◌++◌, length, position, is_some, Some, All}
use Rattle.std.specs.Str.{bytes_eq}
use Rattle.vcode_base.specs.declared.kind.Kind.{Kind}
use Rattle.vcode_base.specs.declared.kind.Kind.TheVariants as kind
use Rattle.vcode_base.specs.declared.instr.Instr.TheVariants.{Move, Call}
use Rattle.vcode_base.specs.Instructions.{op_of}
use Rattle.vcode_base.specs.Kinds.{operand_kinds, result_kinds}
use Rattle.vcode_base.specs.Motions.{entries_after_move}
use Rattle.vcode_base.specs.Names.{main_name}
use Rattle.vcode_reader.specs.Trees.{Item, Body, End, Do, Choice, Function, Program}
use Rattle.signatures.specs.Signatures.{Signature, kinds_of}

-- what a CALL may name: functions, and what they take and give
pub record Scope : Type 0 where
  pub functions : List Function
  pub signatures : List Signature

abbrev pub has_function : List ℕ → List Function → Bool
has_function name fs = is_some (position (λ f. bytes_eq f.name name) fs)

-- the instruction takes these entries, from the bottom up, and leaves those in their place
abbrev pub Turns : Scope → Item → List Kind → List Kind → Type 0
Turns scope (Move motion i j) takes gives =
    (lower upper : List Kind) × (length lower ≡ i) × (length upper ≡ j) × (takes ≡ lower ++ upper)
    × (gives ≡ entries_after_move motion lower upper)
Turns scope (Call name) takes gives =
    IsTrue (has_function name scope.functions) × (kinds_of scope.signatures name ≡ Some (takes, gives))
Turns scope item takes gives = (takes ≡ operand_kinds (op_of item)) × (gives ≡ result_kinds (op_of item))

-- The body goes from these entries to those: what lies below the entries that an instruction takes stays, and both
-- bodies
-- of an IF go from what lies below its flag to the same.
abbrev pub HasKinds : Scope → Body → List Kind → List Kind → Type 0
HasKinds scope End before after = before ≡ after
HasKinds scope (Do item line rest) before after =
    (below takes gives : List Kind) × Turns scope item takes gives × (before ≡ below ++ takes)
    × HasKinds scope rest (below ++ gives) after
HasKinds scope (Choice line first second end rest) before after =
    (below next : List Kind) × (before ≡ below ++ kind.Bool ∷ [])
    × HasKinds scope first below next × HasKinds scope second below next × HasKinds scope rest next after

-- the function has a signature, and its body goes from what that takes to what that gives
abbrev pub FitsSignature : Scope → Function → Type 0
FitsSignature scope f =
    (takes gives : List Kind) × (kinds_of scope.signatures f.name ≡ Some (takes, gives))
    × HasKinds scope f.body takes gives

abbrev pub scope_of : List Signature → Program → Scope
scope_of signatures program = record { functions = program.functions; signatures = signatures }

-- there is a MAIN, which takes nothing, and each function fits its signature
pub record IsWellKinded (signatures : List Signature) (program : Program) : Type 0 where
  pub main : IsTrue (has_function main_name program.functions)
  pub takes_nothing : (takes gives : List Kind) → kinds_of signatures main_name ≡ Some (takes, gives) → takes ≡ []
  pub functions : All (λ f. FitsSignature (scope_of signatures program) f) program.functions
