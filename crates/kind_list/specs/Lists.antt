-- The kinds that words hold, two bits for each.
use Rattle.std.specs.Prelude.{◌≡◌, ℕ, ◌/◌, ◌^◌, ◌<◌, List, [], ◌∷◌, ◌++◌, length, reverse}
use Rattle.vcode_base.specs.declared.kind.Kind.{Kind}
use Rattle.kind_list.specs.Packed.{kinds_of, IsPacked}
use Rattle.kind_list.specs.Words.{number_of}

-- the number of words and a last one
abbrev pub number_in : List ℕ → ℕ → ℕ
number_in words last = number_of (words ++ last ∷ [])

abbrev pub kinds_in : ℕ → List ℕ → ℕ → List Kind
kinds_in count words last = kinds_of count (number_in words last)

-- the words are those that this many kinds fill
pub record AreInWords (count : ℕ) (words : List ℕ) (last : ℕ) : Type 0 where
  pub full : length words ≡ count / 32
  pub fits : last < 2 ^ 64
  pub packed : IsPacked count (number_in words last)

-- all kinds of lists that are one after another
abbrev pub concatenated : List (List Kind) → List Kind
concatenated [] = []
concatenated (ks ∷ rest) = ks ++ concatenated rest

-- of these lists the last comes first
abbrev pub from_end : List (List Kind) → List Kind
from_end lists = concatenated (reverse lists)
