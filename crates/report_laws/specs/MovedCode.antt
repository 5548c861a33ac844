-- Programs n lines further on, and what runs them.
use Rattle.std.specs.Prelude.{ℕ, ◌+◌, List, map, Result, Ok, Err}
use Rattle.vcode_base.specs.declared.outcome.Outcome.{Outcome}
use Rattle.vcode_base.specs.declared.outcome.Outcome.TheVariants.{Returned, Fault, Memory, Budget}
use Rattle.vcode_reader.specs.Trees.{Body, End, Do, Choice, Function, Program}
use Rattle.verifier.specs.Typed.{TypedProgram}
use Rattle.job_steps.specs.States.{Vector, Task}

abbrev pub moved_body : ℕ → Body → Body
moved_body n End = End
moved_body n (Do item line rest) = Do item (line + n) (moved_body n rest)
moved_body n (Choice line first second end rest) =
    Choice (line + n) (moved_body n first) (moved_body n second) (end + n) (moved_body n rest)

abbrev pub moved_function : ℕ → Function → Function
moved_function n f = record { name = f.name; line = f.line + n; body = moved_body n f.body; ret = f.ret + n }

abbrev pub moved_program : ℕ → Program → Program
moved_program n program =
    record { first_line = program.first_line + n; functions = map (moved_function n) program.functions }

-- the kinds are as before
abbrev pub moved_typed : ℕ → TypedProgram → TypedProgram
moved_typed n typed = record typed { program = moved_program n typed.program }

-- the same job, of a program n lines further on
abbrev pub moved_task : ℕ → Task → Task
moved_task n task = record task { verified = moved_typed n task.verified }

abbrev pub moved_outcome : ℕ → Outcome (List Vector) → Outcome (List Vector)
moved_outcome n (Returned results) = Returned results
moved_outcome n (Fault fault line) = Fault fault (line + n)
moved_outcome n (Memory fault line) = Memory fault (line + n)
moved_outcome n Budget = Budget

-- ---- what refuses a job, n lines further on

abbrev pub fault_further_on : {F : Type 0} → ℕ → F × ℕ → F × ℕ
fault_further_on n fault = (fault.0, fault.1 + n)

abbrev pub further_on : {A F : Type 0} → ℕ → Result A (F × ℕ) → Result A (F × ℕ)
further_on n (Ok found) = Ok found
further_on n (Err fault) = Err (fault_further_on n fault)

-- a program, or what refuses it
abbrev pub code_further_on : {F : Type 0} → ℕ → Result Program (F × ℕ) → Result Program (F × ℕ)
code_further_on n (Ok program) = Ok (moved_program n program)
code_further_on n (Err fault) = Err (fault_further_on n fault)
