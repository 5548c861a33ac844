-- Lines at the front of a text, and lines in order.
use Rattle.std.proofs.lemmas.List.{take-append-drop, append-nil}
use Rattle.std.proofs.Common.{◌≡◌, ℕ, suc, ◌+◌, ◌-◌, ◌<◌, ◌≤◌, true, List, [], ◌∷◌, ◌++◌, length, get_or, take, refl}
use Rattle.std.proofs.Common.{sym, ap, ◌∙◌, arith, rules, append_assoc}
use Rattle.std.specs.Prelude.{◌==◌}
use Rattle.std.specs.List.{onto_first}
use Rattle.std.proofs.lemmas.Bool.Decides.{nat_tests}
use Rattle.std.proofs.lemmas.Bool.{false_from_ne_true}
use Rattle.std.proofs.lemmas.Grind.{common_steps}
use Rattle.vcode_base.specs.Lines.{line_feeds}
use Rattle.batch_reader.specs.Feeds.{HoldsNoLineFeed, IsWholeLine}
use Rattle.batch_reader.specs.Headings.{line_of, line_past_limit, numbered_lines}
use Rattle.batch_reader.specs.Lines.{lines}

-- ---- bytes without an LF

pub no_feed_append : (xs ys : List ℕ) → HoldsNoLineFeed xs → HoldsNoLineFeed ys → HoldsNoLineFeed (xs ++ ys)
no_feed_append [] ys h k = k
no_feed_append (x ∷ xs) ys h k = (h.0, no_feed_append xs ys h.1 k)

pub feeds_of_open : (xs : List ℕ) → HoldsNoLineFeed xs → line_feeds xs ≡ 0
feeds_of_open [] h = refl
feeds_of_open (x ∷ xs) h = rw (h.0, feeds_of_open xs h.1) refl

pub feeds_append : (xs ys : List ℕ) → line_feeds (xs ++ ys) ≡ line_feeds xs + line_feeds ys
feeds_append [] ys = omega arith
feeds_append (x ∷ xs) ys = grind (arith, feeds_append xs ys)

pub feeds_of_whole : (line : List ℕ) → IsWholeLine line → line_feeds line ≡ 1
feeds_of_whole line whole = grind (arith, feeds_append, feeds_of_open)

pub feeds_of_joined : (held rest : List ℕ) → HoldsNoLineFeed held → IsWholeLine rest → line_feeds (held ++ rest) ≡ 1
feeds_of_joined held rest none whole = grind (arith, feeds_append, feeds_of_open, feeds_of_whole)

-- an open line with the rest of it
pub whole_with : (held rest : List ℕ) → HoldsNoLineFeed held → IsWholeLine rest → IsWholeLine (held ++ rest)
whole_with held rest none whole = grind (arith, no_feed_append, append_assoc)

-- ---- lines of a text

lines_of_front : (front more : List ℕ) → HoldsNoLineFeed front
    → lines ((front ++ 10 ∷ []) ++ more) ≡ (front ++ 10 ∷ []) ∷ lines more
unfolding lines
lines_of_front [] more h = refl
lines_of_front (x ∷ xs) more h = rw (h.0, lines_of_front xs more h.1) refl

pub lines_of_whole : (line more : List ℕ) → IsWholeLine line → lines (line ++ more) ≡ line ∷ lines more
lines_of_whole line more whole = grind (arith, lines_of_front)

pub lines_of_last : (line : List ℕ) → HoldsNoLineFeed line → 0 < length line → lines line ≡ line ∷ []
unfolding lines
lines_of_last [] h some = absurd (omega arith)
lines_of_last (x ∷ []) h some = rw h.0 refl
lines_of_last (x ∷ y ∷ ys) h some = rw (h.0, lines_of_last (y ∷ ys) h.1 (omega arith)) refl

-- the first line of a text begins with these bytes
abbrev pub BeginsLine : List ℕ → List ℕ → Type 0
BeginsLine front text = (rest : List ℕ) × (others : List (List ℕ)) × (lines text ≡ (front ++ rest) ∷ others)

onto_some : (x : ℕ) (ls : List (List ℕ))
    → (rest : List ℕ) × (others : List (List ℕ)) × (onto_first x ls ≡ (x ∷ rest) ∷ others)
onto_some x [] = ([], [], refl)
onto_some x (l ∷ ls) = (l, ls, refl)

pub begins_line : (front more : List ℕ) → HoldsNoLineFeed front → 0 < length front → BeginsLine front (front ++ more)
unfolding lines
begins_line [] more h some = absurd (omega arith)
begins_line (x ∷ []) more h some = let o = onto_some x (lines more) in (o.0, o.1, rw h.0 o.2)
begins_line (x ∷ y ∷ ys) more h some =
    let b = begins_line (y ∷ ys) more h.1 (omega arith) in (b.0, b.1, rw (h.0, b.2) refl)

pub whole_begins_line : (line more : List ℕ) → IsWholeLine line → BeginsLine line (line ++ more)
whole_begins_line line more whole =
    ([], lines more, lines_of_whole line more whole ∙ ap (λ l. l ∷ lines more) (sym (append-nil line)))

pub lines_nil : lines [] ≡ []
unfolding lines
lines_nil = search rules

-- ---- lines in order

pub numbered_none : (number left : ℕ) → numbered_lines number left [] ≡ []
unfolding numbered_lines
numbered_none number left = search rules

pub numbered_next : (number left next behind : ℕ) (text : List ℕ) (rest : List (List ℕ)) → next ≡ number + 1
    → behind + length text ≡ left
    → numbered_lines number left (text ∷ rest) ≡ line_of number text ∷ numbered_lines next behind rest
unfolding numbered_lines
numbered_next number left next behind text rest n r = grind (arith, nat_tests)

pub numbered_past : (number left : ℕ) (text : List ℕ) (rest : List (List ℕ)) → left < length text
    → numbered_lines number left (text ∷ rest) ≡ line_past_limit number text ∷ []
unfolding numbered_lines
numbered_past number left text rest h = search rules

-- ---- places of a text

pub no_feed_at : (xs : List ℕ) → ((k : ℕ) → 0 ≤ k → k < length xs → get_or xs k 0 == 10 ≡ true → ⊥) → HoldsNoLineFeed xs
no_feed_at [] none = tt
no_feed_at (x ∷ xs) none = (
  false_from_ne_true (x == 10) (none 0 (omega arith) (omega arith)),
  no_feed_at xs (λ k low less is. none (suc k) (omega arith) (omega arith) is),
)

pub line_at : (xs : List ℕ) (i : ℕ) → i < length xs → ((k : ℕ) → 0 ≤ k → k < i → get_or xs k 0 == 10 ≡ true → ⊥)
    → get_or xs i 0 == 10 ≡ true → IsWholeLine (take (i + 1) xs)
line_at xs i less none is = (
  take i xs,
  no_feed_at (take i xs) (λ k low small at. grind (arith, nat_tests, common_steps, none k)),
  grind (arith, nat_tests, common_steps),
)

pub ruleset of_first_line = (take-append-drop, line_at, no_feed_at)
