-- Words at the front of a line.
use Rattle.std.proofs.Common.{◌≡◌, ℕ, ◌<◌, ◌≤◌, suc, zero, true, false, List, [], ◌∷◌, length, take, drop, arith}
use Rattle.std.proofs.lemmas.Grind.{common_steps}
use Rattle.std.specs.List.{list_all}
use Rattle.vcode_base.specs.LineWords.{words_of_line, is_plain, begins_plain}
use Rattle.vcode_base.specs.declared.line_words.Parentheses.{Parentheses}

-- a run of plain bytes, and then what doesn't go on with it
pub words_at_run : (p : Parentheses) (i : ℕ) (xs : List ℕ) → 0 < i → i ≤ length xs
    → list_all (is_plain p) (take i xs) ≡ true → begins_plain p (drop i xs) ≡ false
    → words_of_line p xs ≡ take i xs ∷ words_of_line p (drop i xs)
unfolding words_of_line
words_at_run p zero xs some h plain stops = absurd (omega arith)
words_at_run p (suc i) [] some h plain stops = absurd (omega arith)
words_at_run p (suc zero) (x ∷ xs) some h plain stops = grind arith
words_at_run p (suc (suc i)) (x ∷ []) some h plain stops = absurd (omega arith)
words_at_run p (suc (suc i)) (x ∷ y ∷ xs) some h plain stops = grind (arith, words_at_run p (suc i) (y ∷ xs))

pub ruleset word_steps = (common_steps, words_at_run)
