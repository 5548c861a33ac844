-- A batch gives one answer.
use Rattle.std.proofs.Common.{◌≡◌, ℕ, List, [], ◌∷◌, map, Some, refl, sym, ◌∙◌, arith}
use Rattle.vcode_base.specs.declared.kind.Kind.{Kind}
use Rattle.signatures.specs.Signatures.{Signature}
use Rattle.vcode_reader.specs.Trees.{Program}
use Rattle.verifier.specs.Typed.{TypedProgram, IsVerifiedBy, AreArrows}
use Rattle.job_steps.specs.States.{JobValue}
use Rattle.batch_reader.specs.declared.entry.Fate.{Fate}
use Rattle.batch_reader.specs.Batches.{JobText}
use Rattle.batch_reader.specs.Fates.{AreEntries, IsFate, IsReady, JobEntry}
use Rattle.batch_reader.specs.Laws.{OneBatch, OneEntry}

abbrev Arrow : Type 0
Arrow = List Kind × List Kind

same_somes : (xs ys : List Arrow) → map (λ a. Some a) xs ≡ map (λ a. Some a) ys → xs ≡ ys
same_somes [] [] e = refl
same_somes (x ∷ xs) (y ∷ ys) e = let tail = same_somes xs ys (cc) in cc
same_somes _ _ e = cc

typed : Program → List Arrow → List Kind → TypedProgram
typed program arrows results = record { program = program; arrows = arrows; results = results }

-- what signatures give a program is one
one_typed : (known : List Signature) (x y : TypedProgram) → IsVerifiedBy known x → IsVerifiedBy known y
    → x.program ≡ y.program → x ≡ y
unfolding typed
one_typed known x y h k same =
    let at : AreArrows known y.program.functions x.arrows = rw same at h.arrows in
    let arrows = same_somes x.arrows y.arrows (sym at ∙ k.arrows) in
    let results : x.results ≡ y.results = grind arith in
    let all : typed x.program x.arrows x.results ≡ typed y.program y.arrows y.results =
    cc (same, arrows, results) in all

one_value : (region : ℕ) (job : JobText) (x y : JobValue) → IsReady region job x → IsReady region job y → x ≡ y
one_value region job x y h k = grind (arith, one_typed)

one_fate : (region : ℕ) (job : JobText) (x y : Fate JobValue) → IsFate region job x → IsFate region job y → x ≡ y
one_fate region job x y h k = grind (arith, one_value)

-- a job's text has one entry
pub one_entry : OneEntry
one_entry region job x y h k = grind (arith, one_fate)

one_list : (region : ℕ) (jobs : List JobText) (xs ys : List JobEntry) → AreEntries region jobs xs
    → AreEntries region jobs ys → xs ≡ ys
one_list region [] [] [] h k = refl
one_list region (job ∷ jobs) (x ∷ xs) (y ∷ ys) h k =
    grind (arith, one_entry region job x y h.0 k.0, one_list region jobs xs ys h.1 k.1)
one_list region _ _ _ h k = absurd (search)

pub one_batch : OneBatch
one_batch region input x y h k = grind (arith, one_list)
