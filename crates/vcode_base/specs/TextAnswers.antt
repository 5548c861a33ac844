-- The answer about a text in code, beside the definition's: the same, or out of memory.
use Rattle.std.specs.Prelude.{◌≡◌, ℕ, Result, Ok, Err}
use Rattle.vcode_base.specs.declared.fault.TextFault.{TextFault}
use Rattle.vcode_base.specs.declared.fault.TextFault.TheVariants.{Memory, At}

-- the fault and its line are those that are wanted, unless there was no memory
abbrev pub Fails : {F B : Type 0} → TextFault F → Result B (F × ℕ) → Type 0
Fails Memory wanted = Unit {0}
Fails (At fault line) wanted = wanted ≡ Err (fault, line)

-- what was answered is what is wanted, unless there was no memory
abbrev pub Answers : {F B : Type 0} → Result B (TextFault F) → Result B (F × ℕ) → Type 0
Answers (Ok found) wanted = wanted ≡ Ok found
Answers (Err fault) wanted = Fails fault wanted
