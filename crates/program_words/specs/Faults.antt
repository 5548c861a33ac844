-- What is printed if words give no run, and by which number a program exits then.
use Rattle.std.specs.Prelude.{ℕ, string_bytes}
use Rattle.shown_text.specs.Lines.{HasShownLines}
use Rattle.program_words.specs.declared.fault.WordsFault.{WordsFault}
use Rattle.program_words.specs.declared.line.Line.{Line}
use Rattle.program_words.specs.declared.line.Line.TheVariants.{Run, Help}
use Rattle.program_words.specs.declared.fault.WordsFault.TheVariants.{Refused, Memory}

-- its reason is one that a terminal shows as it is
abbrev pub SaysShownLines : WordsFault → Type 0
SaysShownLines (Refused text) = HasShownLines (string_bytes text)
SaysShownLines Memory = Unit {0}

-- if it is a text of help, it is one that a terminal shows as it is
abbrev pub IsShownHelp : {T : Type 0} → Line T → Type 0
IsShownHelp (Run asked) = Unit {0}
IsShownHelp (Help text) = HasShownLines (string_bytes text)

abbrev pub exit_of : WordsFault → ℕ
exit_of (Refused text) = 2
exit_of Memory = 3
