-- The heads of a report, one after another.
use Rattle.std.proofs.Common.{◌≡◌, ◌≢◌, ◌<◌, ◌+◌, ℕ, List, [], ◌∷◌, ◌++◌, length, refl}
use Rattle.std.proofs.Common.{arith, Option}
use Rattle.std.specs.Prelude.{All, MatchOption}
use Rattle.std.proofs.lemmas.List.{length-append}
use Rattle.std.proofs.lemmas.List.Elements.{All-head, All-tail}
use Rattle.report_splitter.specs.Fronts.{IsSplitAt}
use Rattle.report_splitter.specs.Heads.{whole_lines}

-- ---- lines

no_line : (text : List ℕ) → All (λ x. x ≢ 10) text → whole_lines text ≡ []
no_line [] other = refl
no_line (b ∷ bs) other =
    grind (arith, All-head (λ x. x ≢ 10) b bs other, no_line bs (All-tail (λ x. x ≢ 10) b bs other))

first_of_lines : (front rest : List ℕ) → All (λ x. x ≢ 10) front
    → whole_lines (front ++ (10 ∷ rest)) ≡ front ∷ whole_lines rest
first_of_lines [] rest other = refl
first_of_lines (b ∷ bs) rest other =
    grind (arith, All-head (λ x. x ≢ 10) b bs other, first_of_lines bs rest (All-tail (λ x. x ≢ 10) b bs other))

pub line_answer : {T : Type 0} (first second : T → List ℕ) (text : List ℕ) (r : Option T)
    → MatchOption r (All (λ x. x ≢ 10) text) (λ p. IsSplitAt 10 text (first p) (second p))
    → MatchOption r (whole_lines text ≡ [])
    (λ p. (whole_lines text ≡ first p ∷ whole_lines (second p)) × (length (second p) < length text))
line_answer first second text r h = grind (arith, no_line, first_of_lines, length-append)

-- ---- the answer
