-- What is shown, piece by piece.
use Rattle.std.proofs.Common.{◌≡◌, ℕ, zero, suc, ◌+◌, ◌-◌, ◌≤◌, List, [], ◌++◌, length, drop, flat_map, chars}
use Rattle.std.proofs.Common.{encode_utf8, encode_utf8_all, IsUtf8, refl, arith, append_assoc, length-drop}
use Rattle.std.proofs.Common.{length-append, take_at, drop_at}
use Rattle.std.proofs.lemmas.Str.{chars_past_char, chars-nil, encodes-append}
use Rattle.std.proofs.lemmas.List.{nil_from_length}
use Rattle.std.proofs.str.Lossy.{utf8_invalid_len_pos}
use Rattle.std.proofs.str.Laws.{order}
use Rattle.std.specs.Str.Lossy.{utf8_valid_len, utf8_invalid_len, after_first_chunk}
use Rattle.shown_text.specs.Shown.{shown_char, shown_byte, shown_front, shown_fault, shown_within, shown_text}

-- ---- a text

-- the characters of a text that begins with c
pub shown_chars_step : (text rest : List ℕ) (c : ℕ) → IsUtf8 text → text ≡ encode_utf8 c ++ rest
    → encode_utf8_all (flat_map shown_char (chars text)) ≡ encode_utf8_all (shown_char c)
    ++ encode_utf8_all (flat_map shown_char (chars rest))
shown_chars_step text rest c utf8 parts = rw (chars_past_char text rest c utf8 parts, encodes-append)

pub shown_chars_empty : (text : List ℕ) → length text ≡ 0 → encode_utf8_all (flat_map shown_char (chars text)) ≡ []
shown_chars_empty text none = rw (nil_from_length text none, chars-nil)

-- ---- text and bytes that are none, in turns

-- what follows the first pair is shorter, unless nothing is left
length-after_first : (bs : List ℕ) → length (after_first_chunk bs) ≤ length bs - 1
length-after_first bs = grind (
  arith,
  length-drop,
  order (utf8_valid_len bs) (length bs),
  utf8_invalid_len_pos (drop (utf8_valid_len bs) bs),
)

front_empty : (bs : List ℕ) → length bs ≡ 0 → shown_front bs ≡ []
front_empty bs none = grind (arith, nil_from_length bs none, chars-nil)

fault_empty : (bs : List ℕ) → length bs ≡ 0 → shown_fault bs ≡ []
fault_empty bs none = grind (arith, nil_from_length bs none)

within_empty : (k : ℕ) (bs : List ℕ) → length bs ≡ 0 → shown_within k bs ≡ []
unfolding shown_within
within_empty zero bs none = refl
within_empty (suc k) bs none =
    grind (arith, length-after_first bs, within_empty k (after_first_chunk bs), front_empty, fault_empty)

-- any bound from the length up gives the same
within_any : (k j : ℕ) (bs : List ℕ) → length bs ≤ k → length bs ≤ j → shown_within k bs ≡ shown_within j bs
unfolding shown_within
within_any zero j bs p q = grind (arith, within_empty j bs)
within_any (suc k) zero bs p q = within_empty (suc k) bs (omega arith)
within_any (suc k) (suc j) bs p q = grind (arith, length-after_first bs, within_any k j (after_first_chunk bs))

pub shown_text_step : (bs : List ℕ) → shown_text bs ≡ shown_front bs
    ++ (shown_fault bs ++ shown_text (after_first_chunk bs))
unfolding shown_within shown_text
shown_text_step bs =
    let after = after_first_chunk bs in
    grind (
      arith,
      length-after_first bs,
      within_any (length bs) (suc (length bs)) bs,
      within_any (length bs)
          (length after) after,
    )

pub shown_text_empty : (bs : List ℕ) → length bs ≡ 0 → shown_text bs ≡ []
unfolding shown_text
shown_text_empty bs none = within_empty (length bs) bs none

-- the same of a chunk of `utf8_chunks`, which cuts bs into valid, invalid and rest
shown_chunk : (bs valid invalid rest : List ℕ) → bs ≡ valid ++ (invalid ++ rest) → length valid ≡ utf8_valid_len bs
    → length invalid ≡ utf8_invalid_len (drop (utf8_valid_len bs) bs)
    → shown_text bs ≡ flat_map shown_char (chars valid) ++ (flat_map shown_byte invalid ++ shown_text rest)
shown_chunk bs valid invalid rest parts valid_len invalid_len =
    rw (shown_text_step bs) (grind (arith, take_at, drop_at, length-append, append_assoc valid invalid rest))

-- and as bytes
pub shown_chunk_bytes : (bs valid invalid rest : List ℕ) → bs ≡ valid ++ (invalid ++ rest) → length valid
    ≡ utf8_valid_len bs
    → length invalid ≡ utf8_invalid_len (drop (utf8_valid_len bs) bs)
    → encode_utf8_all (shown_text bs)
    ≡ encode_utf8_all (flat_map shown_char (chars valid)) ++ (encode_utf8_all (flat_map shown_byte invalid)
    ++ encode_utf8_all (shown_text rest))
shown_chunk_bytes bs valid invalid rest parts valid_len invalid_len =
    rw (shown_chunk bs valid invalid rest parts valid_len invalid_len) (simp encodes-append)
