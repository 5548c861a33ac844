-- What is known of a program that was verified: the kinds that its functions take and give.
use Rattle.std.specs.Prelude.{◌≡◌, List, [], map, Some, refl}
use Rattle.std.specs.Coded.{Coded, code_by, coded×, coded_list}
use Rattle.vcode_base.specs.declared.kind.Kind.{Kind}
use Rattle.vcode_base.specs.Names.{main_name}
use Rattle.vcode_reader.specs.Trees.{CodeLine, Function, Program}
use Rattle.vcode_reader.specs.Decode.{program_code}
use Rattle.signatures.specs.Signatures.{FunctionType, Signature, kinds_of}
use Rattle.verifier.specs.Kinded.{IsWellKinded}

-- a program, what each of its functions takes and gives, in their order, and the kinds of the entries at the RET of its
-- MAIN
pub record TypedProgram : Type 0 where
  pub program : Program
  pub arrows : List FunctionType
  pub results : List Kind

-- the signatures give each function the kinds at its place
abbrev pub AreArrows : List Signature → List Function → List FunctionType → Type 0
AreArrows signatures functions arrows = map (λ f. kinds_of signatures f.name) functions ≡ map (λ a. Some a) arrows

-- these signatures make the program well kinded, and give its functions these kinds
pub record IsVerifiedBy (signatures : List Signature) (typed : TypedProgram) : Type 0 where
  pub well_kinded : IsWellKinded signatures typed.program
  pub arrows : AreArrows signatures typed.program.functions typed.arrows
  pub results : kinds_of signatures main_name ≡ Some ([], typed.results)

abbrev pub IsVerified : TypedProgram → Type 0
IsVerified typed = (signatures : List Signature) × IsVerifiedBy signatures typed

-- it is identified by its program and the kinds
abbrev pub typed_program_code : Coded CodeLine → Coded Kind → Coded TypedProgram
typed_program_code line kind =
    code_by (Program × (List FunctionType × List Kind))
    (coded× (program_code line) (coded× (coded_list (coded× (coded_list kind) (coded_list kind))) (coded_list kind)))
    (λ t. (t.program, (t.arrows, t.results)))
    (λ p. record { program = p.0; arrows = p.1.0; results = p.1.1 }) (λ _. refl)
