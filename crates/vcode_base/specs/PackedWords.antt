-- Words in fewer bytes.
use Rattle.std.specs.Prelude.{ℕ, ℤ, pos, negsuc, ◌+◌, ◌*◌, ◌/◌, ◌%◌, ◌<◌, ◌+ℤ◌, ◌-ℤ◌, unsigned_abs, List, [], ◌∷◌}
use Rattle.vcode_base.specs.declared.packed_words.PackedWords.{PackedWords}
use Rattle.vcode_base.specs.declared.packed_words.PackedWords.TheVariants.{Bytes, ThreeBytes, Whole}

-- how many numbers are before a word, counted from 0 up or from -1 down
abbrev pub magnitude : ℤ → ℕ
magnitude (pos n) = n
magnitude (negsuc n) = n

-- a number from -half to half - 1
abbrev pub IsBelow : ℕ → ℤ → Type 0
IsBelow half word = magnitude word < half

-- how far a word of three bytes is above the least of them
abbrev pub height : ℤ → ℕ
height word = unsigned_abs (word +ℤ pos 8388608)

abbrev pub high_of : ℤ → ℕ
high_of word = height word / 65536

abbrev pub low_of : ℤ → ℕ
low_of word = height word % 65536

-- the word of three bytes
abbrev pub three_byte_word : ℕ → ℕ → ℤ
three_byte_word high low = pos (high * 65536 + low) -ℤ pos 8388608

abbrev pub three_byte_words : List ℕ → List ℕ → List ℤ
three_byte_words (high ∷ highs) (low ∷ lows) = three_byte_word high low ∷ three_byte_words highs lows
three_byte_words _ _ = []

-- the words in order
abbrev pub words_of : {A : Type 0} → PackedWords A → List ℤ
words_of (Bytes bytes) = bytes.items
words_of (ThreeBytes highs lows) = three_byte_words highs.items lows.items
words_of (Whole words) = words.items
