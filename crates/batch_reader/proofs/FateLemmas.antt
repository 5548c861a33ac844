-- What is read of a job, and what refuses it.
use Rattle.std.proofs.Common.{◌≡◌, ℕ, ◌≤◌, List, None, Ok, Err, arith, rules, [], ◌++◌, append_assoc, ◌∙◌, Result, refl}
use Rattle.std.proofs.lemmas.List.{append-nil}
use Rattle.std.proofs.lemmas.Bool.Decides.{nat_tests}
use Rattle.vcode_reader.specs.declared.fault.CodeFault.{CodeFault}
use Rattle.vcode_reader.specs.Reading.{ReaderState as CodeState, HasCome as CodeHasCome, reading as code_reading}
use Rattle.vcode_reader.specs.Trees.{Program}
use Rattle.signatures.specs.Reading.{reading as signatures_reading}
use Rattle.signatures.specs.Signatures.{Signature}
use Rattle.verifier.specs.First.{kind_fault}
use Rattle.verifier.specs.Laws.{NoFaultWhereWellKinded}
use Rattle.verifier.specs.Typed.{IsVerifiedBy}
use Rattle.job_steps.specs.States.{JobValue}
use Rattle.batch_reader.specs.declared.head.JobHeader.{JobHeader}
use Rattle.batch_reader.specs.Batches.{JobText}
use Rattle.batch_reader.specs.Fates.{JobRefusal, IsReady, limits_within, signatures_of, signed_program_of}
use Rattle.batch_reader.specs.Standings.{HasRead, ShowsHead, with_code}

-- ---- signatures

-- the words of a job whose signatures were read are within the region
pub words_within : (region : ℕ) (job : JobText) (known : List Signature) → signatures_of region job ≡ Ok known
    → job.head.limits.words ≤ region
unfolding signatures_of limits_within
words_within region job known e = grind (arith, nat_tests)

-- the signatures that were read
pub signatures_are : (region : ℕ) (job : JobText) (known : List Signature)
    → limits_within region job.head.limits job.line ≡ Ok job.head.limits
    → signatures_reading job.signatures_line job.signatures ≡ Ok known → signatures_of region job ≡ Ok known
unfolding signatures_of
signatures_are region job known e f = rw (e, f) refl

-- ---- the program

pub program_is : (region : ℕ) (job : JobText) (known : List Signature) (program : Program)
    → signatures_of region job ≡ Ok known → code_reading job.code_line job.code ≡ Ok program
    → kind_fault known program ≡ None → signed_program_of region job ≡ Ok (known, program)
unfolding signed_program_of
program_is region job known program e f k = search rules

-- ---- more code

pub signatures_with_code : (region : ℕ) (job : JobText) (text : List ℕ)
    → signatures_of region (with_code job text) ≡ signatures_of region job
unfolding signatures_of
signatures_with_code region job text = refl

pub refused_with_more : (region : ℕ) (job : JobText) (refusal : JobRefusal) (text : List ℕ)
    → ((more : List ℕ) → signed_program_of region (with_code job more) ≡ Err refusal)
    → (more : List ℕ) → signed_program_of region (with_code (with_code job text) more) ≡ Err refusal
refused_with_more region job refusal text h more = grind (arith, append_assoc)

pub ruleset of_more_code = (refused_with_more, signatures_with_code, append_assoc)

pub refused_with_none : (region : ℕ) (job : JobText) (refusal : JobRefusal)
    → ((more : List ℕ) → signed_program_of region (with_code job more) ≡ Err refusal)
    → signed_program_of region job ≡ Err refusal
refused_with_none region job refusal h = grind (arith, append-nil, h [])

-- ---- the job

pub code_comes_to : (region : ℕ) (known : List Signature) (r : CodeState) (job : JobText)
    (x : Result Program (CodeFault × ℕ)) → HasRead region known r job
    → ((bytes : List ℕ) → CodeHasCome r bytes → code_reading r.first_line bytes ≡ x)
    → code_reading job.code_line job.code ≡ x
code_comes_to region known r job x read answers = grind (arith, answers)

-- what is run is well kinded by the signatures of the text
pub is_ready : (region : ℕ) (job : JobText) (known : List Signature) (program : Program) (kept : JobHeader (List ℕ))
    (ready : JobValue)
    → NoFaultWhereWellKinded → ShowsHead kept job.head job.line → signatures_of region job ≡ Ok known
    → code_reading job.code_line job.code ≡ Ok program → ready.verified.program ≡ program
    → IsVerifiedBy known ready.verified → ready.name ≡ kept.name → ready.limits ≡ kept.limits → IsReady region job ready
is_ready region job known program kept ready law head e f same verified name limits =
    let fits = words_within region job known e in
    record {
      signatures = known;
      program = grind (arith, program_is, (law known ready.verified.program).1 verified.well_kinded);
      verified = verified;
      name = name ∙ head.name;
      limits = limits ∙ head.limits;
      words = grind arith;
    }
