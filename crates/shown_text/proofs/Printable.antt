-- Which characters are printable, and that those of what is shown are.
use Rattle.std.proofs.Common.{rules, ◌≡◌, ℕ, zero, suc, ◌+◌, ◌<◌, ◌≤◌, Bool, true, false, not, ◌||◌, List, [], ◌∷◌}
use Rattle.std.proofs.Common.{◌++◌, length, flat_map, refl, arith, lit<, lit≤}
use Rattle.std.proofs.lemmas.Bool.{le-leb, cond_both}
use Rattle.std.proofs.lemmas.List.Elements.{All-nil, All-cons}
use Rattle.std.specs.List.{All}
use Rattle.std.specs.Char.Escape.{backslash, hex_digit_at, escape_unicode, escape_or}
use Rattle.ucd_table.specs.Rows.{Range, in_ranges}
use Rattle.ucd_table.proofs.Computing.{tables}
use Rattle.ucd_table.proofs.Stepped.{of_ranges, zip_stepped}
use Rattle.ucd_table.proofs.Facts.{Stepped-everywhere}
use Rattle.ucd_category.specs.declared.GeneralCategory.{GeneralCategory}
use Rattle.ucd_category.specs.declared.GeneralCategoryGroup.TheVariants.{Other, Separator}
use Rattle.ucd_category.specs.GeneralCategory.{general_category}
use Rattle.ucd_category.specs.GeneralCategoryGroup.{in_group}
use Rattle.ucd_category.proofs.GeneralCategoryLemmas.{general_category_stepped}
use Rattle.ucd_derived.specs.Binary.{is_default_ignorable_code_point}
use Rattle.ucd_derived.proofs.BinaryLemmas.{is_default_ignorable_code_point_stepped}
use Rattle.shown_text.specs.Shown.{is_printable, shown_char, shown_byte, shown_front, shown_fault, shown_within}
use Rattle.shown_text.specs.Shown.{shown_text}
use Rattle.shown_text.specs.Laws.{controls, ControlsAreNotPrintable, ShownIsPrintable}

-- the category is one of a character without a shape
abbrev is_blank : GeneralCategory → Bool
is_blank g = in_group Other g || in_group Separator g

-- ---- the control characters

controls_are_blank : (c : ℕ) → (not (in_ranges controls c) || is_blank (general_category c)) ≡ true
unfolding tables general_category_stepped
controls_are_blank = Stepped-everywhere _ (zip_stepped (λ r g. not r || is_blank g)
    (in_ranges controls) general_category (of_ranges controls refl) general_category_stepped) refl

the_blank_is_none : in_ranges controls 0x20 ≡ false
unfolding in_ranges
the_blank_is_none = refl

pub controls_are_not_printable : ControlsAreNotPrintable
unfolding is_printable
controls_are_not_printable c among = grind (arith, controls_are_blank c, the_blank_is_none)

-- ---- ASCII

-- what has a shape
abbrev graphic : List Range
graphic = (0x21, 0x7E) ∷ []

graphic_has_shape : (c : ℕ) → (not (in_ranges graphic c) || not (is_blank (general_category c))) ≡ true
unfolding tables general_category_stepped
graphic_has_shape = Stepped-everywhere _ (zip_stepped (λ r g. not r || not (is_blank g))
    (in_ranges graphic) general_category (of_ranges graphic refl) general_category_stepped) refl

graphic_is_kept : (c : ℕ) → (not (in_ranges graphic c) || not (is_default_ignorable_code_point c)) ≡ true
unfolding tables is_default_ignorable_code_point_stepped
graphic_is_kept = Stepped-everywhere _ (zip_stepped (λ r d. not r || not d)
    (in_ranges graphic) is_default_ignorable_code_point
    (of_ranges graphic refl) is_default_ignorable_code_point_stepped) refl

is_graphic : (c : ℕ) → 0x21 ≤ c → c ≤ 0x7E → in_ranges graphic c ≡ true
unfolding in_ranges
is_graphic c low high = grind (arith, le-leb)

pub ascii_is_printable : (c : ℕ) → 0x20 ≤ c → c < 0x7F → is_printable c ≡ true
unfolding is_printable
ascii_is_printable c low high = grind (arith, is_graphic c, graphic_has_shape c, graphic_is_kept c)

-- ---- escapes

abbrev IsPrintable : ℕ → Type 0
IsPrintable c = is_printable c ≡ true

-- each character is printable
abbrev AllPrintable : List ℕ → Type 0
AllPrintable [] = Unit {0}
AllPrintable (c ∷ cs) = IsPrintable c × AllPrintable cs

all_printable : (cs : List ℕ) → AllPrintable cs → All IsPrintable cs
all_printable [] _ = All-nil IsPrintable
all_printable (c ∷ cs) h = All-cons IsPrintable c cs h.0 (all_printable cs h.1)

slash : IsPrintable backslash
slash = ascii_is_printable 92 (lit≤ tt) (lit< tt)

hex : (place c : ℕ) → IsPrintable (hex_digit_at place c)
hex place c = grind (arith, ascii_is_printable)

unicode_is_printable : (c : ℕ) → AllPrintable (escape_unicode c)
unicode_is_printable c = search (rules, slash, hex, cond_both, ascii_is_printable) depth 12 fits 3000

escape_or_is_printable : (c : ℕ) (other : List ℕ) → AllPrintable other → AllPrintable (escape_or c other)
escape_or_is_printable c other q = grind (arith, ascii_is_printable)

-- ---- what is shown

char_is_printable : (c : ℕ) → AllPrintable (shown_char c)
unfolding shown_char
char_is_printable c = grind (arith, escape_or_is_printable c (escape_unicode c), unicode_is_printable c)

byte_is_printable : (b : ℕ) → AllPrintable (shown_byte b)
unfolding shown_byte
byte_is_printable b = grind (arith, escape_or_is_printable b, slash, hex, ascii_is_printable 120)

append_is_printable : (xs ys : List ℕ) → AllPrintable xs → AllPrintable ys → AllPrintable (xs ++ ys)
append_is_printable [] ys p q = q
append_is_printable (x ∷ xs) ys p q = (p.0, append_is_printable xs ys p.1 q)

each_is_printable : (f : ℕ → List ℕ) → ((x : ℕ) → AllPrintable (f x)) → (xs : List ℕ) → AllPrintable (flat_map f xs)
each_is_printable f p [] = tt
each_is_printable f p (x ∷ xs) = append_is_printable (f x) (flat_map f xs) (p x) (each_is_printable f p xs)

within_is_printable : (k : ℕ) (bs : List ℕ) → AllPrintable (shown_within k bs)
unfolding shown_within
within_is_printable zero bs = tt
within_is_printable (suc k) bs =
    append_is_printable (shown_front bs) _ (each_is_printable shown_char char_is_printable _)
    (append_is_printable (shown_fault bs) _ (each_is_printable shown_byte byte_is_printable _)
    (within_is_printable k _))

pub shown_is_printable : ShownIsPrintable
unfolding shown_text
shown_is_printable bs = all_printable (shown_text bs) (within_is_printable (length bs) bs)
