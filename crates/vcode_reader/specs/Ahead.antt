-- Words at the front of a text.
use Rattle.std.specs.Prelude.{◌≡◌, ℕ, ℤ, suc, ◌-◌, ◌<◌, ◌≤◌, Bool, true, false, List, length, take, drop, get_or, None}
use Rattle.std.specs.Prelude.{Some, codes}
use Rattle.vcode_base.specs.Bytes.{decimal}
use Rattle.vcode_base.specs.declared.kind.Scalar.{Scalar}
use Rattle.vcode_base.specs.declared.kind.Scalar.TheVariants as scalar
use Rattle.vcode_reader.specs.declared.place.Place.{Place}
use Rattle.vcode_reader.specs.declared.place.Place.TheVariants.{Outside, Name, Inside, InsideOrInt, Words, Elements}
use Rattle.vcode_reader.specs.Classes.{plain_length}
use Rattle.vcode_reader.specs.declared.head.Head.{Head}
use Rattle.vcode_reader.specs.declared.keyword.Keyword.{Keyword}
use Rattle.vcode_reader.specs.Heads.{head_slots}
use Rattle.vcode_reader.specs.Keywords.{keyword_slots}
use Rattle.vcode_reader.specs.Numbers.{number_of}
use Rattle.vcode_reader.specs.Parsing.{Parse, after_slot, inside, take as take_word}
use Rattle.vcode_reader.specs.Scan.{Scan}

abbrev pub IsDigit : ℕ → Type 0
IsDigit d = (48 ≤ d) × (d ≤ 57)

abbrev pub is_int : Scalar → Bool
is_int scalar.Int = true
is_int scalar.Bool = false

-- the next word is in a list, and elements of this kind are numbers
abbrev pub awaits_number : Place → Scalar → Bool
awaits_number Outside kind = false
awaits_number Name kind = false
awaits_number Inside kind = false
awaits_number InsideOrInt kind = false
awaits_number (Words keyword slot begun) kind = false
awaits_number (Elements keyword begun line) kind = is_int kind

-- a blank and this word are at the front of a text, and a byte follows that is no part of the word
pub record HasWord (t w : List ℕ) : Type 0 where
  pub some : 1 ≤ length w
  pub more : suc (length w) < length t
  pub blank : get_or t 0 0 ≡ 32
  pub plain : plain_length (drop 1 t) ≡ length w
  pub word : w ≡ take (length w) (drop 1 t)

-- that many digits, of this value, are at the front of a text, and a byte follows that is no part of their word
pub record HasDigits (t : List ℕ) (value digits : ℕ) : Type 0 where
  pub some : 1 ≤ digits
  pub more : digits < length t
  pub plain : plain_length t ≡ digits
  pub value_is : decimal (take digits t) ≡ Some value

-- this number, in that many bytes, is at the front of a text, and a byte follows that is no part of its word
pub record HasNumber (t : List ℕ) (number : ℤ) (digits : ℕ) : Type 0 where
  pub some : 1 ≤ digits
  pub more : digits < length t
  pub plain : plain_length t ≡ digits
  pub number_is : number_of (take digits t) ≡ Some number

-- a blank, the word INT, a blank and this number are at the front of a text, in that many bytes, and a byte follows
-- that is no part of the number's word
pub record HasInt (t : List ℕ) (number : ℤ) (bytes : ℕ) : Type 0 where
  pub kind : HasWord t (codes "INT")
  pub blank : get_or (drop 4 t) 0 0 ≡ 32
  pub more : 5 ≤ bytes
  pub number_is : HasNumber (drop 5 t) number (bytes - 5)

-- a word is at the place of an item, and begins this
pub record BeginsItem (word : List ℕ) (head : Head) (p : Parse) : Type 0 where
  pub good : p.fault ≡ None
  pub takes : (line : ℕ) → take_word word line p ≡ inside head (head_slots head) line p

-- a text after the first word of an instruction
abbrev pub begun : Keyword → Scan Parse → Scan Parse
begun k s = record s { found = after_slot k s.line (keyword_slots k) s.found }
