-- Texts that are split at a byte.
use Rattle.std.proofs.Common.{◌≡◌, ◌≢◌, ◌+◌, ◌-◌, ℕ, List, [], ◌∷◌, ◌++◌, length, get_or}
use Rattle.std.proofs.Common.{take, drop, refl, arith, add-one, drop-cons, Option, Some, None}
use Rattle.std.specs.Prelude.{All, MatchOption}
use Rattle.std.proofs.lemmas.Bool.Decides.{Decides-eqb}
use Rattle.std.proofs.lemmas.List.{get_or-take, get_or_at, length-append, length-drop, length-take-le, take-append-drop}
use Rattle.std.proofs.lemmas.List.{take_all}
use Rattle.std.proofs.lemmas.List.Elements.{All-from_get_or, All-head, All-tail}
use Rattle.memchr.specs.Find.{IsFirstByte, is_byte}
use Rattle.report_splitter.specs.Fronts.{IsSplitAt}

-- ---- where a byte is found

pub split_found : (b : ℕ) (text : List ℕ) (at : ℕ) → IsFirstByte (is_byte b) text (Some at)
    → IsSplitAt b text (take at text) (take (length text - (at + 1)) (drop (at + 1) text))
split_found b text at found = record {
  before = All-from_get_or (λ x. x ≢ b) (take at text) 0 (grind (arith, length-take-le, get_or-take, Decides-eqb));
  parts = grind (arith, take_all, length-drop, add-one, drop-cons text at 0, take-append-drop, Decides-eqb);
}

pub none_found : (b : ℕ) (text : List ℕ) → IsFirstByte (is_byte b) text None → All (λ x. x ≢ b) text
none_found b text none = All-from_get_or (λ x. x ≢ b) text 0
    (λ i l e. none i (omega arith) l ((Decides-eqb (get_or text i 0) b).1 e))

-- ---- a text is split in one way

pub same_split : (b : ℕ) (front rest f r : List ℕ) → All (λ x. x ≢ b) front → All (λ x. x ≢ b) f
    → front ++ (b ∷ rest) ≡ f ++ (b ∷ r) → (front ≡ f) × (rest ≡ r)
same_split b [] rest [] r a o e = (refl, (cc))
same_split b [] rest (x ∷ f) r a o e = grind (arith, All-head)
same_split b (x ∷ front) rest [] r a o e = grind (arith, All-head)
same_split b (x ∷ front) rest (y ∷ f) r a o e =
    let i = same_split b front rest f r (All-tail (λ z. z ≢ b) x front a) (All-tail (λ z. z ≢ b) y f o) in
    grind (arith, i)

-- the byte is there
pub not_apart : (b : ℕ) (text front rest : List ℕ) → All (λ x. x ≢ b) text → text ≡ front ++ (b ∷ rest) → ⊥
not_apart b text front rest other is = (rw is at other) (length front) 0
    (omega (arith, length-append front (b ∷ rest))) (get_or_at front b rest 0 (length front) refl)

pub split_as : {T : Type 0} (first second : T → List ℕ) (b : ℕ) (text word rest : List ℕ) (r : Option T)
    → MatchOption r (All (λ x. x ≢ b) text) (λ p. IsSplitAt b text (first p) (second p)) → All (λ x. x ≢ b) word
    → text ≡ word ++ (b ∷ rest) → MatchOption r ⊥ (λ p. (first p ≡ word) × (second p ≡ rest))
split_as first second b text word rest r h other is = grind (arith, not_apart b text word rest, same_split b)
