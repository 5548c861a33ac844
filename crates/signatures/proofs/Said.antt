-- What a line adds, or what is wrong with it.
use Rattle.std.proofs.Common.{◌≡◌, ℕ, List, [], ◌∷◌, Option, Some, None, Result, Ok, Err, Bool, true, false, cond}
use Rattle.std.proofs.Common.{arith, inl, inr, refl}
use Rattle.std.proofs.lemmas.Bool.Decides.{nat_tests}
use Rattle.signatures.specs.declared.fault.SignatureFault.{SignatureFault}
use Rattle.signatures.specs.declared.fault.SignatureFault.TheVariants.{BadLine, NameTwice, TooLarge}
use Rattle.signatures.specs.First.{Adds, IsWrong}
use Rattle.signatures.specs.Lines.{line_words}
use Rattle.signatures.specs.Reading.{arrow_in, is_too_large, add, after_name, after_words, after_line}
use Rattle.signatures.specs.Signatures.{Signature, FunctionType, signature}
use Rattle.signatures.specs.Spelling.{Says, Fits, is_name}
use Rattle.signatures.proofs.Spelled.{arrow_in-arrow_words, arrow_in-is}

-- ---- one signature more

small : (known : List Signature) (s : Signature) → Fits known s → is_too_large known s ≡ false
small known s h = grind (arith, nat_tests)

fits : (known : List Signature) (s : Signature) → is_too_large known s ≡ false → Fits known s
fits known s h = grind (arith, nat_tests)

-- what a line adds or what is wrong with it, by its reading
abbrev pub LineReading : List Signature → List ℕ → Result (List Signature) SignatureFault → Type 0
LineReading known line (Ok new) = Adds known line new
LineReading known line (Err fault) = IsWrong fault known line

added : (known : List Signature) (line : List ℕ) (s : Signature) → Says line s → LineReading known line (add known s)
unfolding add
added known line s says = grind (arith, small, fits)

-- ---- a line

says_after : (known : List Signature) (line : List ℕ) (s : Signature) → Says line s
    → after_line known line ≡ add known s
unfolding after_line
says_after known line s h = grind (arith, arrow_in-arrow_words, h)

pub adds_after : (known new : List Signature) (line : List ℕ) → Adds known line new → after_line known line ≡ Ok new
unfolding after_line add
adds_after known new line (inl h) = grind arith
adds_after known new line (inr h) = grind (arith, says_after known line h.0 h.1, small known h.0 h.2)

-- a line with this first word and these after it
by_arrow : (known : List Signature) (line w : List ℕ) (ws : List (List ℕ)) (t : Bool) (o : Option FunctionType)
    → line_words line ≡ w ∷ ws → is_name w ≡ t → arrow_in ws ≡ o
    → LineReading known line (cond t (after_name known w o) (Err BadLine))
by_arrow known line w ws true (Some kinds) h n a =
    added known line (signature w kinds) (record { words_are = grind (arith, arrow_in-is ws); name = n })
by_arrow known line w ws true None h n a = (grind arith, grind (arith, arrow_in-arrow_words))
by_arrow known line w ws false o h n a = (grind arith, grind arith)

by_words : (known : List Signature) (line : List ℕ) (ws : List (List ℕ)) → line_words line ≡ ws
    → LineReading known line (after_words known ws)
by_words known line [] h = inl (h, refl)
by_words known line (w ∷ ws) h = by_arrow known line w ws _ _ h refl refl

pub line_reads : (known : List Signature) (line : List ℕ) → LineReading known line (after_line known line)
unfolding after_line
line_reads known line = by_words known line _ refl

pub wrong_after : (fault : SignatureFault) (known : List Signature) (line : List ℕ) → IsWrong fault known line
    → after_line known line ≡ Err fault
unfolding add
wrong_after BadLine known line h = grind (arith, line_reads known line)
wrong_after NameTwice known line h = grind (arith, says_after known line h.0 h.1, small known h.0 h.2)
wrong_after TooLarge known line h = grind (arith, says_after known line h.0 h.1, fits known h.0)
