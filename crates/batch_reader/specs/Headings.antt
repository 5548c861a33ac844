-- What a line of a batch is by itself, and the lines of a batch in order.
use Rattle.std.specs.Prelude.{ℕ, ◌+◌, ◌-◌, ◌==◌, nat_lt, Bool, true, false, ◌&&◌, ◌||◌, if◌then◌else◌, List, [], ◌∷◌}
use Rattle.std.specs.Prelude.{codes, length}
use Rattle.std.specs.Str.{bytes_eq}
use Rattle.vcode_base.specs.LineWords.{is_separator}
use Rattle.vcode_base.specs.declared.limits.TheConstants.{MOST_BATCH_BYTES}
use Rattle.batch_reader.specs.declared.heading.Heading.{Heading}
use Rattle.batch_reader.specs.declared.heading.Heading.TheVariants.{Blank, SecondRule, Signatures, Code, End, Other}
use Rattle.batch_reader.specs.Lines.{batch_words, lines}

-- a line whose only word is this
abbrev pub marker_of : List ℕ → Heading
marker_of w =
    if bytes_eq w (codes "SIGNATURES") then Signatures
    else if bytes_eq w (codes "CODE") then Code
    else if bytes_eq w (codes "END") then End
    else Other

-- a line of these two words
abbrev pub pair_of : List ℕ → List ℕ → Heading
pair_of w v = if bytes_eq w (codes "BATCH") && bytes_eq v (codes "2") then SecondRule else Other

-- the byte separates words, or begins the first word of a line that marks something
abbrev pub may_begin_heading : ℕ → Bool
may_begin_heading b = is_separator b || b == 66 || b == 67 || b == 69 || b == 83

-- the second and the third byte of a line may be those of CODE, or one of them ends the first word
abbrev pub may_go_on_in_code : ℕ → ℕ → Bool
may_go_on_in_code second third = third == 68 || nat_lt second 33 || nat_lt third 33

-- the byte separates words, or begins END
abbrev pub may_begin_end : ℕ → Bool
may_begin_end b = b == 69 || nat_lt b 33

-- the first byte and the one after the third may be those of END and of what separates it from other words
abbrev pub may_be_around_end : ℕ → ℕ → Bool
may_be_around_end first next = first == 69 && nat_lt next 33

-- a line of these words
abbrev pub heading_of : List (List ℕ) → Heading
heading_of [] = Blank
heading_of (w ∷ []) = marker_of w
heading_of (w ∷ v ∷ []) = pair_of w v
heading_of (w ∷ v ∷ u ∷ ws) = Other

abbrev pub is_blank : Heading → Bool
is_blank Blank = true
is_blank _ = false

abbrev pub is_second_rule : Heading → Bool
is_second_rule SecondRule = true
is_second_rule _ = false

abbrev pub is_signatures : Heading → Bool
is_signatures Signatures = true
is_signatures _ = false

-- a line of a batch: its number, its bytes with its LF, what it is, and whether it holds the first byte past the limit
pub record BatchLine : Type 0 where
  pub number : ℕ
  pub text : List ℕ
  pub heading : Heading
  pub is_past : Bool

abbrev pub line_of : ℕ → List ℕ → BatchLine
line_of number text = record { number = number; text = text; heading = heading_of (batch_words text); is_past = false }

-- a line that passes the limit, after which nothing is read
abbrev pub line_past_limit : ℕ → List ℕ → BatchLine
line_past_limit number text = record { number = number; text = text; heading = Other; is_past = true }

-- these lines, the first of which has this number, if `left` bytes are left of the limit
unfoldable pub numbered_lines : ℕ → ℕ → List (List ℕ) → List BatchLine
numbered_lines number left [] = []
numbered_lines number left (t ∷ ts) =
    if nat_lt left (length t) then line_past_limit number t ∷ []
    else line_of number t ∷ numbered_lines (number + 1) (left - length t) ts

-- the lines of a batch
abbrev pub lines_of : List ℕ → List BatchLine
lines_of input = numbered_lines 1 MOST_BATCH_BYTES (lines input)
