-- The words of a signature are read as that signature, and no others are.
use Rattle.std.proofs.Common.{◌≡◌, ℕ, refl, arith, Some, List, [], ◌∷◌, ◌++◌, map, append_assoc, append-nil}
use Rattle.std.proofs.lemmas.List.{map-append}
use Rattle.std.specs.Prelude.{codes, IfSome}
use Rattle.std.specs.Cmp.Lexicographic.{bytes_decides}
use Rattle.vcode_base.specs.declared.kind.Kind.{Kind}
use Rattle.signatures.specs.Reading.{kind_of, kinds_from, arrow_in}
use Rattle.signatures.specs.Spelling.{word_of, arrow_words}

-- ---- from kinds to words and back

kinds_from-list_words : (ks before : List Kind) (more : List (List ℕ))
    → kinds_from before (map word_of ks ++ codes ")" ∷ more) ≡ Some (before ++ ks, more)
unfolding kinds_from
kinds_from-list_words [] before more = rw append-nil
kinds_from-list_words (k ∷ ks) before more =
    grind (arith, kinds_from-list_words ks (before ++ k ∷ []) more, append_assoc)

pub arrow_in-arrow_words : (operands results : List Kind)
    → arrow_in (arrow_words operands results) ≡ Some (operands, results)
unfolding arrow_in
arrow_in-arrow_words operands results = grind (arith, kinds_from-list_words)

-- ---- from what was read to the words

kind_of-is : (w : List ℕ) → IfSome (kind_of w) (λ k. w ≡ word_of k)
kind_of-is w = grind (arith, bytes_decides)

-- these words were read as these kinds and a closing parenthesis, with kinds before them
abbrev AreRead : List Kind → List (List ℕ) → Type 0
AreRead before ws =
    IfSome (kinds_from before ws) (λ out. map word_of before ++ ws ≡ map word_of out.0 ++ codes ")" ∷ out.1)

one_word : (before : List Kind) (w : List ℕ) (ws : List (List ℕ)) → ((k : Kind) → AreRead (before ++ k ∷ []) ws)
    → AreRead before (w ∷ ws)
unfolding kinds_from
one_word before w ws rest = grind (arith, kind_of-is, bytes_decides, map-append, append_assoc)

kinds_from-is : (ws : List (List ℕ)) (before : List Kind) → IfSome (kinds_from before ws)
    (λ out. map word_of before ++ ws ≡ map word_of out.0 ++ codes ")" ∷ out.1)
unfolding kinds_from
kinds_from-is [] before = tt
kinds_from-is (w ∷ ws) before = one_word before w ws (λ k. kinds_from-is ws (before ++ k ∷ []))

-- the same, as `grind` finds it
kinds_are : (before : List Kind) (ws : List (List ℕ)) → (kinds_from before ws ≡ kinds_from before ws)
    × AreRead before ws
kinds_are before ws = (refl, kinds_from-is ws before)

pub arrow_in-is : (ws : List (List ℕ)) → IfSome (arrow_in ws) (λ kinds. ws ≡ arrow_words kinds.0 kinds.1)
unfolding arrow_in
arrow_in-is ws = grind (arith, bytes_decides, kinds_are)
