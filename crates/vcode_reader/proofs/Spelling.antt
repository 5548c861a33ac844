-- The table of words, looked up among the words of a length, and by what a word begins.
use Rattle.std.proofs.Common.{◌≡◌, ◌<◌, ℕ, Bool, true, List, [], ◌∷◌, length, refl, arith}
use Rattle.std.specs.Prelude.{map}
use Rattle.std.proofs.lemmas.Bool.Decides.{nat_tests}
use Rattle.std.proofs.lemmas.Slice.Eq.{bytes_eq-Decides}
use Rattle.vcode_reader.specs.declared.head.Head.TheVariants.{Other}
use Rattle.vcode_reader.specs.declared.keyword.WordSlot.{WordSlot}
use Rattle.vcode_reader.specs.Heads.{Row, rows, look_up, rows_with, head_of_length, head_longer, head_slots, head_of}
use Rattle.vcode_reader.specs.Heads.{slots_of}

look_up-rows_with : {A : Type 0} (column : Row → A) (missing : A) (is_such : ℕ → Bool) (rs : List Row)
    (word : List ℕ) → is_such (length word) ≡ true →
    look_up column missing (rows_with is_such rs) word ≡ look_up column missing rs word
look_up-rows_with column missing is_such [] word h = refl
look_up-rows_with column missing is_such (r ∷ rs) word h =
    grind (arith, bytes_eq-Decides, look_up-rows_with column missing is_such rs word h)

pub among_length : (n : ℕ) (word : List ℕ) → length word ≡ n → head_of_length n word ≡ head_of word
unfolding head_of_length head_of
among_length n word h = grind (arith, nat_tests, look_up-rows_with)

pub among_longer : (n : ℕ) (word : List ℕ) → n < length word → head_longer n word ≡ head_of word
unfolding head_longer head_of
among_longer n word h = grind (arith, nat_tests, look_up-rows_with)

-- no row has the word of no bytes
pub no_word : (word : List ℕ) → length word ≡ 0 → Other ≡ head_of word
unfolding head_of_length rows
no_word word h = among_length 0 word h

-- ---- what follows a word, by what the word begins

abbrev by_head : Row → List WordSlot
by_head r = head_slots r.head

look_up-slots : (rs : List Row) (word : List ℕ) → map (λ (r : Row). r.slots) rs ≡ map by_head rs →
    look_up (λ (r : Row). r.slots) [] rs word ≡ head_slots (look_up (λ (r : Row). r.head) Other rs word)
look_up-slots [] word h = refl
look_up-slots (r ∷ rs) word h = grind (arith, look_up-slots rs word)

rows_agree : map (λ (r : Row). r.slots) rows ≡ map by_head rows
unfolding rows
rows_agree = refl

pub slots_by_head : (word : List ℕ) → slots_of word ≡ head_slots (head_of word)
unfolding slots_of head_of
slots_by_head word = look_up-slots rows word rows_agree

-- a word is looked up among those of its length, or of more
pub ruleset head_rows = (no_word, among_length, among_longer)
