-- What the tests of flags and of descriptors decide.
use Rattle.std.proofs.Common.{◌≡◌, refl, ℤ, pos, ◌≤ℤ◌, ◌||◌, ◌&&◌, Bool, not, nat_lt, arith}
use Rattle.std.proofs.Common.{List, [], ◌∷◌, length}
use Rattle.std.specs.Bool.{Decides}
use Rattle.std.specs.Borrow.{Bor}
use Rattle.std.specs.List.{All, list_all, list_any}
use Rattle.std.specs.Ordering.{int_eq}
use Rattle.std.specs.Prelude.{int_lt}
use Rattle.std.proofs.lemmas.Bool.Decides.{Decides-or, Decides-by_and}
use Rattle.std.proofs.lemmas.Bool.Decides.{Decides-int_eq, nat_tests}
use Rattle.std.proofs.lemmas.Int.{ints}
use Rattle.std.proofs.lemmas.Grind.{common_steps}
use Rattle.vcode_base.specs.Kinds.{IsFlag, AreLengths, HasKind, HaveKinds}
use Rattle.vcode_base.specs.Operands.{contents}
use Rattle.vcode_base.specs.declared.kind.Kind.{Kind}
use Rattle.vcode_base.specs.declared.limits.TheConstants.{MOST_TOTAL}
use Rattle.vcode_base.specs.Segments.{total}
use Rattle.vcode_base.specs.declared.kind.Kind.TheVariants.{Segdes}

abbrev pub is_flag : ℤ → Bool
is_flag x = int_eq x (pos 0) || int_eq x (pos 1)

pub Decides-flags : (xs : List ℤ) → Decides (list_all is_flag xs) (All IsFlag xs)
Decides-flags = Decides-by_and is_flag IsFlag (list_all is_flag)
    (λ x. Decides-or (int_eq x (pos 0)) (int_eq x (pos 1)) (Decides-int_eq x (pos 0)) (Decides-int_eq x (pos 1)))
    refl (λ _ _. refl)

abbrev pub is_negative : ℤ → Bool
is_negative n = int_lt n (pos 0)

not_or : (a b : Bool) → not (a || b) ≡ (not a && not b)
not_or a b = grind arith

Decides-lengths : (xs : List ℤ) → Decides (not (list_any is_negative xs)) (AreLengths xs)
Decides-lengths = Decides-by_and (λ n. not (is_negative n)) (λ n. pos 0 ≤ℤ n)
    (λ xs. not (list_any is_negative xs)) (λ n. (λ h. grind (arith, ints), λ h. grind (arith, ints))) refl
    (λ n xs. not_or (is_negative n) (list_any is_negative xs))

pub Decides-descriptor : (xs : List ℤ) → Decides (not (list_any is_negative xs || nat_lt MOST_TOTAL (total xs)))
    (HasKind Segdes xs)
Decides-descriptor xs = grind (arith, nat_tests, Decides-lengths xs)

-- values of these kinds are as many as the kinds
pub as_many : (ks : List Kind) (refs : List (Bor (List ℤ))) → HaveKinds ks (contents refs) → length ks ≡ length refs
as_many [] [] have = refl
as_many (k ∷ ks) (r ∷ refs) have = grind (arith, as_many ks refs)
as_many [] (r ∷ refs) have = absurd have
as_many (k ∷ ks) [] have = absurd have

pub ruleset kind_steps = (common_steps, Decides-flags, Decides-descriptor)
