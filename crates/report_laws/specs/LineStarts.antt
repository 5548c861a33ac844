-- Texts in which no line after the first begins as an entry or the last line of a report does.
use Rattle.std.specs.Prelude.{◌≡◌, ◌≢◌, ℕ, List, [], ◌∷◌}

-- a text that doesn't begin with J or E
abbrev pub StartsApart : List ℕ → Type 0
StartsApart [] = Unit {0}
StartsApart (b ∷ bs) = (b ≢ 74) × (b ≢ 69)

-- after each LF of a text comes no J and no E
abbrev pub HasApartLines : List ℕ → Type 0
HasApartLines [] = Unit {0}
HasApartLines (b ∷ bs) = (b ≡ 10 → StartsApart bs) × HasApartLines bs
