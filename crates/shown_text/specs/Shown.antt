-- Bytes as a text that a terminal shows as it is.
use Rattle.std.specs.Prelude.{
  ℕ,
  zero,
  suc,
  Bool,
  not,
  ◌&&◌,
  ◌||◌,
  ◌==◌,
  List,
  [],
  ◌∷◌,
  ◌++◌,
  length,
  take,
  drop,
  flat_map,
  if◌then◌else◌,
}
use Rattle.std.specs.Str.{chars}
use Rattle.std.specs.Str.Lossy.{utf8_valid_len, utf8_invalid_len, after_first_chunk}
use Rattle.std.specs.Char.Escape.{backslash, escape_default, escape_ascii}
use Rattle.ucd_category.specs.GeneralCategory.{general_category}
use Rattle.ucd_category.specs.GeneralCategoryGroup.{in_group}
use Rattle.ucd_category.specs.declared.GeneralCategoryGroup.TheVariants.{Other, Separator}
use Rattle.ucd_derived.specs.Binary.{is_default_ignorable_code_point}

-- the character has a shape, or is the blank
unfoldable pub is_printable : ℕ → Bool
is_printable c =
    c == 0x20
    || not ((in_group Other (general_category c) || in_group Separator (general_category c)) ||
    is_default_ignorable_code_point c)

-- it stands for itself
abbrev pub is_plain : ℕ → Bool
is_plain c = not (c == backslash) && is_printable c

-- what is shown of a character: itself, or `\\`, `\n`, `\r`, `\t` or `\u{..}`
unfoldable pub shown_char : ℕ → List ℕ
shown_char c = if is_plain c then c ∷ [] else escape_default c

-- what is shown of a byte that is part of no character: `\x..`
unfoldable pub shown_byte : ℕ → List ℕ
shown_byte b = escape_ascii b

-- what is shown of the longest text at the front
abbrev pub shown_front : List ℕ → List ℕ
shown_front bs = flat_map shown_char (chars (take (utf8_valid_len bs) bs))

-- what is shown of the bytes after it that are no text
abbrev pub shown_fault : List ℕ → List ℕ
shown_fault bs = let after = drop (utf8_valid_len bs) bs in flat_map shown_byte (take (utf8_invalid_len after) after)

-- the same of both, and of at most k - 1 such pairs that follow
unfoldable pub shown_within : ℕ → List ℕ → List ℕ
shown_within zero bs = []
shown_within (suc k) bs = shown_front bs ++ (shown_fault bs ++ shown_within k (after_first_chunk bs))

-- the characters that are shown of some bytes
unfoldable pub shown_text : List ℕ → List ℕ
shown_text bs = shown_within (length bs) bs
