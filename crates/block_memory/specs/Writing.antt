-- Words of a region outside of a block.
use Rattle.std.specs.Prelude.{◌≡◌, ◌⊎◌, ℕ, ℤ, ◌+◌, ◌<◌, ◌≤◌, List, length, map, take, drop, Option, Some, None}
use Rattle.std.specs.Borrow.{Bor}
use Rattle.block_memory.specs.Table.{value_at}
use Rattle.block_memory.specs.Layout.{Layout, with_slot}
use Rattle.block_memory.specs.declared.span.Span.{Span}

-- the lists that are lent
abbrev pub contents : List (Bor (List ℤ)) → List (List ℤ)
contents refs = map (λ r. r.now) refs

-- the words of a span
abbrev pub words_in : List ℤ → Span → List ℤ
words_in words span = take span.len (drop span.place words)

-- the span has no words, or lies in a region of this size outside of place..place + len
abbrev pub IsOutside : ℕ → ℕ → ℕ → Span → Type 0
IsOutside size place len span =
    (span.place + span.len ≤ size)
    × ((span.len ≡ 0) ⊎ (span.place + span.len ≤ place) ⊎ (place + len ≤ span.place))

-- the span lies in a region of this size, and no word of it is among place..place + len, if these are any
abbrev pub IsApart : ℕ → ℕ → ℕ → Span → Type 0
IsApart size place len span = (span.place + span.len ≤ size) × (0 < len → IsOutside size place len span)

-- the span of a number, and one of no words where the number has none
abbrev pub span_of : Option Span → Span
span_of None = record { owner = 0; place = 0; len = 0 }
span_of (Some s) = s

abbrev pub span_at : List (Option Span) → ℕ → Span
span_at spans id = span_of (value_at spans id)

-- these words came over as many others, this is what that changed, and the words have this property
pub record IsRewrittenBy (old : List ℤ) (changed is : List ℤ → Type 0) : Type 0 where
  pub words : List ℤ
  pub same_length : length words ≡ length old
  pub rewritten : changed words
  pub so : is words

-- one block of `len` words more, which covers this many words of the region. Its words have this property
abbrev pub IsPutWith : Layout → Layout → (number owner place covered len : ℕ) → (List ℤ → Type 0) → Type 0
IsPutWith old new number owner place covered len is =
    (words : List ℤ)
    × ((length words ≡ len) × is words
    × (new ≡ with_slot old number (Some (record { owner = owner; place = place; len = covered; words = words }))))
