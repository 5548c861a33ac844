-- The names of the faults of a text as the report prints them.
use Rattle.std.specs.Prelude.{ℕ, List, codes}
use Rattle.vcode_base.specs.declared.fault.TextFault.{TextFault}
use Rattle.vcode_reader.specs.declared.fault.CodeFault.{CodeFault}
use Rattle.vcode_reader.specs.declared.fault.CodeFault.TheVariants.{BadWord, BadNumber, Unfinished, Misplaced}
use Rattle.vcode_reader.specs.declared.fault.CodeFault.TheVariants.{FunctionTwice, TooLarge}

abbrev pub refusal_text : CodeFault → List ℕ
refusal_text BadWord = codes "S1 BAD_WORD"
refusal_text BadNumber = codes "S2 BAD_NUMBER"
refusal_text Unfinished = codes "S3 UNFINISHED"
refusal_text Misplaced = codes "S4 MISPLACED"
refusal_text FunctionTwice = codes "S5 FUNCTION_TWICE"
refusal_text TooLarge = codes "S6 TOO_LARGE"

-- a fault and its line
abbrev pub Fault : Type 0
Fault = CodeFault × ℕ

-- the same, or out of memory
abbrev pub ReadFault : Type 0
ReadFault = TextFault CodeFault
