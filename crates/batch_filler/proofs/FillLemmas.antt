-- The first line of a batch, and what is put before it.
use Rattle.std.proofs.Common.{◌≡◌, ℕ, zero, suc, ◌+◌, ◌<◌, ◌≤◌, ◌==◌, Bool, true, false, List, [], ◌∷◌, ◌++◌, length}
use Rattle.std.proofs.Common.{get_or, take, drop, refl, sym, ap, ◌∙◌, arith, add-one, append_assoc}
use Rattle.std.proofs.lemmas.List.{append-nil}
use Rattle.batch_reader.specs.Lines.{lines}
use Rattle.batch_reader.specs.declared.section.Section.{Section}
use Rattle.batch_filler.specs.Filled.{filled, next_section, text_before, texts_after}

-- ---- the first line

isnt_true : (b : Bool) → (b ≡ true → ⊥) → b ≡ false
isnt_true true n = absurd (n refl)
isnt_true false n = refl

pub no_lines : (text : List ℕ) → length text ≡ 0 → lines text ≡ []
unfolding lines
no_lines [] none = refl
no_lines (b ∷ bs) none = absurd (omega arith)

line_by : (text : List ℕ) (i : ℕ) → i < length text → ((k : ℕ) → 0 ≤ k → k < i → get_or text k 0 == 10 ≡ true → ⊥)
    → get_or text i 0 == 10 ≡ true → lines text ≡ take (suc i) text ∷ lines (drop (suc i) text)
unfolding lines
line_by [] i less none is = absurd (omega arith)
line_by (b ∷ bs) zero less none is = rw is refl
line_by (b ∷ bs) (suc i) less none is = rw (
  isnt_true (b == 10) (none 0 (omega arith) (omega arith)),
  line_by bs i (omega arith) (λ k low small at. none (suc k) (omega arith) (omega arith) at) is,
) refl

-- the first LF of a text ends its first line
pub line_at : (text : List ℕ) (i : ℕ) → i < length text
    → ((k : ℕ) → 0 ≤ k → k < i → get_or text k 0 == 10 ≡ true → ⊥) → get_or text i 0 == 10 ≡ true
    → lines text ≡ take (i + 1) text ∷ lines (drop (i + 1) text)
line_at text i less none is = rw add-one (line_by text i less none is)

-- a text without an LF is one line
pub last_line : (text : List ℕ) → 0 < length text
    → ((k : ℕ) → 0 ≤ k → k < length text → get_or text k 0 == 10 ≡ true → ⊥) → lines text ≡ text ∷ lines []
unfolding lines
last_line [] some none = absurd (omega arith)
last_line (b ∷ []) some none = rw (isnt_true (b == 10) (none 0 (omega arith) (omega arith))) refl
last_line (b ∷ c ∷ bs) some none = rw (
  isnt_true (b == 10) (none 0 (omega arith) (omega arith)),
  last_line (c ∷ bs) (omega arith) (λ k low less is. none (suc k) (omega arith) (omega arith) is),
) refl

-- ---- what is put before it

filled_none : (section : Section) (texts all : List (List ℕ)) → all ≡ [] → filled section texts all ≡ []
unfolding filled
filled_none section texts all none = rw none refl

pub filled_end : (section : Section) (texts all : List (List ℕ)) (new whole : List ℕ) → all ≡ []
    → new ++ filled section texts all ≡ whole → new ≡ whole
filled_end section texts all new whole none so_far =
    sym (append-nil new) ∙ ap (λ t. new ++ t) (sym (filled_none section texts all none)) ∙ so_far

pub filled_next : (section next : Section) (texts all rest : List (List ℕ)) (new line whole : List ℕ)
    → all ≡ line ∷ rest → next ≡ next_section section line → new ++ filled section texts all ≡ whole
    → ((new ++ text_before section next texts) ++ line) ++ filled next (texts_after section next texts) rest ≡ whole
unfolding filled
filled_next section next texts all rest new line whole is after so_far =
    let others = filled next (texts_after section next texts) rest in
    append_assoc (new ++ text_before section next texts) line others
    ∙ append_assoc new (text_before section next texts) (line ++ others)
    ∙ ap (λ n. new ++ (text_before section n texts ++ (line ++ filled n (texts_after section n texts) rest))) after
    ∙ ap (λ ls. new ++ filled section texts ls) (sym is)
    ∙ so_far
