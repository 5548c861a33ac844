-- The kinds that each function of a well kinded program takes and gives.
use Rattle.std.proofs.Common.{◌≡◌, ◌∙◌, ℕ, ◌+◌, ◌<◌, Option, Some, None, sym, ap, subst, arith, List, [], ◌∷◌, ◌++◌}
use Rattle.std.proofs.Common.{length, take, get_or}
use Rattle.std.specs.Prelude.{All, IsSome, MatchOption}
use Rattle.std.proofs.Math.Seq.{take-suc}
use Rattle.std.proofs.lemmas.List.{map-append}
use Rattle.std.proofs.lemmas.Grind.{common_steps}
use Rattle.std.proofs.lemmas.List.Elements.{All-get_or}
use Rattle.vcode_reader.specs.Trees.{Function, Program}
use Rattle.signatures.specs.Signatures.{FunctionType, Signature, kinds_of}
use Rattle.verifier.specs.Kinded.{IsWellKinded, FitsSignature, scope_of}
use Rattle.verifier.specs.Typed.{AreArrows}

-- the signature of the function at a place
pub arrow_at : (signatures : List Signature) (program : Program) (fs : List Function) (i : ℕ) (f : Function)
    → IsWellKinded signatures program → fs ≡ program.functions → i < length fs → f ≡ get_or fs i f
    → (arrow : FunctionType) × (kinds_of signatures f.name ≡ Some arrow)
arrow_at signatures program fs i f h same lt is =
    let scope = scope_of signatures program in
    let all : All (FitsSignature scope) fs = subst (All (FitsSignature scope)) (sym same) h.functions in
    let (takes, gives, signature, body) = All-get_or (FitsSignature scope) fs i f lt all in
    ((takes, gives), ap (λ (g : Function). kinds_of signatures g.name) is ∙ signature)

-- an answer that is none only if there is no signature
pub is_known : {T : Type 0} (o : Option T) (P : T → Type 0) (known : Option FunctionType)
    → MatchOption o (known ≡ None) P
    → ((arrow : FunctionType) × (known ≡ Some arrow)) → IsSome o
is_known o P known h k = grind arith

-- and if there is an answer, it is the signature
pub known_arrow : {T : Type 0} (o : Option T) (P : T → Type 0) (N : Type 0) (x : T) → MatchOption o N P → o ≡ Some x
    → P x
known_arrow o P N x h e = rw e at h

-- the arrows of the functions before a place, and the next one
pub next_arrow : (signatures : List Signature) (program : Program) (fs : List Function) (i : ℕ) (f : Function)
    (arrows new : List FunctionType) (arrow : FunctionType) → fs ≡ program.functions → i < length fs → f ≡ get_or fs i f
    → AreArrows signatures (take i program.functions) arrows → kinds_of signatures f.name ≡ Some arrow
    → new ≡ arrows ++ arrow ∷ [] → AreArrows signatures (take (i + 1) program.functions) new
next_arrow signatures program fs i f arrows new arrow same lt is before here e =
    grind (arith, common_steps, map-append, take-suc)
