-- The parts that identify a job.
use Rattle.std.specs.Prelude.{ℕ, ◌≤◌, List, length, refl}
use Rattle.std.specs.Coded.{Coded, code_by, coded_ℕ, coded×, coded_list}
use Rattle.vcode_base.specs.declared.kind.Kind.{Kind}
use Rattle.vcode_base.specs.declared.limits.Limits.{Limits}
use Rattle.vcode_base.specs.declared.limits.TheConstants.{LONGEST_NAME}
use Rattle.vcode_reader.specs.Trees.{CodeLine}
use Rattle.verifier.specs.Typed.{TypedProgram, typed_program_code}
use Rattle.job_steps.specs.States.{JobValue}

-- neither empty nor too long
abbrev pub IsName : List ℕ → Type 0
IsName name = (1 ≤ length name) × (length name ≤ LONGEST_NAME)

-- its name, its program and its limits
abbrev pub job_code : Coded CodeLine → Coded Kind → Coded Limits → Coded JobValue
job_code line kind limits =
    code_by (List ℕ × (TypedProgram × Limits))
    (coded× (coded_list coded_ℕ) (coded× (typed_program_code line kind) limits))
    (λ j. (j.name, (j.verified, j.limits))) (λ p. record { name = p.0; verified = p.1.0; limits = p.1.1 }) (λ _. refl)
