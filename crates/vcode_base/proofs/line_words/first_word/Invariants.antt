use Rattle.std.proofs.Common.{◌≡◌, drop}
use Rattle.vcode_base.specs.LineWords.{words_of_line}
use Rattle.vcode_base.proofs.line_words.first_word.Given as goal

abbrev pub invariant-loop-i : goal.invariant-loop-i
invariant-loop-i l = words_of_line l.parentheses (drop l.i l.line) ≡ words_of_line l.parentheses l.line
