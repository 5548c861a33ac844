use Rattle.std.proofs.Common.{◌≡◌, take, true}
use Rattle.std.specs.List.{list_all}
use Rattle.vcode_base.specs.LineWords.{is_plain}
use Rattle.vcode_base.proofs.line_words.split_word.Given as goal

abbrev pub invariant-loop-i : goal.invariant-loop-i
invariant-loop-i l = list_all (is_plain l.parentheses) (take l.i l.text) ≡ true
