-- What a byte does in a text.
use Rattle.std.specs.Prelude.{ℕ, suc, Bool, true, false, if◌then◌else◌, ◌==◌, ◌||◌, List, [], ◌∷◌}
use Rattle.vcode_base.specs.Bytes.{is_visible}
use Rattle.vcode_reader.specs.declared.class.Class.{Class}
use Rattle.vcode_reader.specs.declared.class.Class.TheVariants.{LineFeed, Blank, OpenBrace, CloseBrace, Parenthesis}
use Rattle.vcode_reader.specs.declared.class.Class.TheVariants.{Plain, Refused}

unfoldable pub class_of : ℕ → Class
class_of b =
    if b == 10 then LineFeed
    else if (b == 32) || (b == 9) || (b == 13) then Blank
    else if b == 123 then OpenBrace
    else if b == 125 then CloseBrace
    else if (b == 40) || (b == 41) then Parenthesis
    else if is_visible b then Plain
    else Refused

-- a byte of this class is a part of a word
abbrev pub is_plain : Class → Bool
is_plain Plain = true
is_plain _ = false

-- how many bytes at the front of a text are parts of a word
abbrev pub plain_length : List ℕ → ℕ
plain_length [] = 0
plain_length (b ∷ bs) = if is_plain (class_of b) then suc (plain_length bs) else 0

-- a byte of this class changes nothing in a comment
abbrev pub is_passed : Class → Bool
is_passed LineFeed = false
is_passed CloseBrace = false
is_passed _ = true

-- how many bytes at the front of a text change nothing in a comment
abbrev pub passed_length : List ℕ → ℕ
passed_length [] = 0
passed_length (b ∷ bs) = if is_passed (class_of b) then suc (passed_length bs) else 0
