-- Kinds as the digits of a number.
use Rattle.std.proofs.Common.{◌≡◌, ℕ, zero, suc, ◌+◌, ◌*◌, ◌/◌, ◌%◌, ◌^◌, ◌<◌, ◌≤◌, List, [], ◌∷◌, ◌++◌, length, take}
use Rattle.std.proofs.Common.{drop, get_or, refl, ◌∙◌, ap, arith}
use Rattle.std.proofs.lemmas.Nat.{shr_below}
use Rattle.std.proofs.Math.Pow.{pow_mono}
use Rattle.std.proofs.lemmas.List.{drop_more, take_all, length-append, length-drop, length-take-le}
use Rattle.std.proofs.lemmas.List.Elements.{All-nil, All-head, All-tail}
use Rattle.vcode_base.specs.declared.kind.Kind.{Kind}
use Rattle.kind_list.specs.Packed.{digit_of, kind_of_digit, digits_of, kinds_of, packed, AreKinds, IsPacked, IsChunk}
use Rattle.kind_list.proofs.Values.{IsValue, value-lt, value-append, value-drop, value-take}

digit-lt : (k : Kind) → digit_of k < 3
digit-lt k = grind arith

kind_back : (k : Kind) → kind_of_digit (digit_of k) ≡ k
kind_back k = grind arith

digit_back : (d : ℕ) → d < 3 → digit_of (kind_of_digit d) ≡ d
digit_back d small = grind arith

pub packed_value : IsValue packed 2 digit_of
unfolding packed
packed_value = record { none = refl; more = λ k ks. refl; small = λ k. omega (arith, digit-lt k) }

pub packed_lt : (ks : List Kind) → packed ks < 2 ^ (2 * length ks)
packed_lt ks = value-lt packed_value ks

-- with another kind
pub packed_room : (ks : List Kind) (place : ℕ) → 0 < place → place ≤ length ks → length ks ≤ 32
    → packed (drop place ks) * 4 < 2 ^ 64
packed_room ks place some within few =
    let least : 2 * length (drop place ks) ≤ 62 = omega (arith, length-drop place ks) in
    omega (arith, packed_lt (drop place ks), pow_mono least)

pub packed_at : (ks : List Kind) (place : ℕ) (k : Kind) → place < length ks
    → packed (drop place ks) ≡ packed (drop (place + 1) ks) * 4 + digit_of (get_or ks place k)
packed_at ks place k within = ap packed (drop_more ks place k within) ∙ packed_value.more _ _

pub ruleset packed_steps = (packed_lt, packed_room, packed_at)

-- ---- the number of kinds, and the kinds of a number

pub length_kinds : (count n : ℕ) → length (kinds_of count n) ≡ count
unfolding digits_of
length_kinds zero n = refl
length_kinds (suc count) n = ap suc (length_kinds count (n / 4))

packed_back : (count n : ℕ) → n < 2 ^ (2 * count) → AreKinds count n → packed (kinds_of count n) ≡ n
unfolding digits_of packed
packed_back zero n fits kinds = omega arith
packed_back (suc count) n fits kinds =
    let next : 2 * suc count ≡ 2 * count + 2 = omega arith in
    let below = shr_below n (2 * count) 2 (rw next at fits) in
    let rest = packed_back count (n / 4) below (All-tail (λ d. d < 3) (n % 4) _ kinds) in
    grind (arith, digit_back, rest, All-head (λ d. d < 3) (n % 4) _ kinds)

-- what is known of the kinds of a number, and of the number of kinds
pub kinds_known : (count n : ℕ) → IsPacked count n
    → (kinds_of count n ≡ kinds_of count n) × (length (kinds_of count n) ≡ count) × (packed (kinds_of count n) ≡ n)
kinds_known count n p = (refl, length_kinds count n, packed_back count n p.fits p.kinds)

pub kinds_packed : (ks : List Kind)
    → (packed ks ≡ packed ks) × (kinds_of (length ks) (packed ks) ≡ ks) × IsPacked (length ks) (packed ks)
unfolding digits_of packed
kinds_packed [] = (refl, refl, record { fits = omega arith; kinds = All-nil (λ d. d < 3) })
kinds_packed (k ∷ ks) = grind (arith, digit-lt k, kind_back k, kinds_packed ks, packed_lt (k ∷ ks))

pub ruleset known = (kinds_known, kinds_packed)

pub ruleset lengths = (length_kinds, take_all, length-drop)

-- the number is that of these kinds
pub record Holds (count n : ℕ) (ks : List Kind) : Type 0 where
  pub long : count ≡ length ks
  pub is : n ≡ packed ks

pub holds : {count n : ℕ} {ks : List Kind} → IsPacked count n → kinds_of count n ≡ ks → Holds count n ks
holds {count} {n} p is = grind (arith, kinds_known count n p)

pub held : {count n : ℕ} {ks : List Kind} → Holds count n ks → IsPacked count n × (kinds_of count n ≡ ks)
held {ks = ks} h = grind (arith, kinds_packed ks, h.long, h.is)

pub held_chunk : {count n : ℕ} {ks : List Kind} → count ≤ 32 → Holds count n ks
    → IsChunk count n × (kinds_of count n ≡ ks)
held_chunk few h = (record { few = few; packed = (held h).0 }, (held h).1)

-- ---- parts of them

pub Holds-append : {count n more m new : ℕ} {ks ls : List Kind} → Holds count n ks → Holds more m ls
    → new ≡ m * 2 ^ (2 * count) + n → Holds (count + more) new (ks ++ ls)
Holds-append {ks = ks} {ls = ls} h also is = grind (arith, h, also, length-append, value-append packed_value ks ls)

pub Holds-take : {count n new : ℕ} {ks : List Kind} (i : ℕ) → i ≤ count → Holds count n ks → new ≡ n % 2 ^ (2 * i)
    → Holds i new (take i ks)
Holds-take i within h is = grind (arith, h, length-take-le, value-take packed_value)

pub Holds-drop : {count n new : ℕ} {ks : List Kind} (i rest : ℕ) → i + rest ≡ count → Holds count n ks
    → new ≡ n / 2 ^ (2 * i) → Holds rest new (drop i ks)
Holds-drop i rest all h is = grind (arith, h, length-drop, value-drop packed_value)

pub Holds-lt : {count n : ℕ} {ks : List Kind} → Holds count n ks → n < 2 ^ (2 * count)
Holds-lt {ks = ks} h = rw (h.long, h.is) (packed_lt ks)
