-- Kinds that words hold.
use Rattle.std.proofs.Common.{◌≡◌, ℕ, ◌+◌, ◌-◌, ◌*◌, ◌/◌, ◌%◌, ◌^◌, ◌<◌, ◌≤◌, List, [], ◌∷◌, ◌++◌, length, take, drop}
use Rattle.std.proofs.Common.{get_or, refl, sym, ◌∙◌, ap, arith}
use Rattle.std.proofs.Math.Nat.{mod-eq_of_lt, div-le_self, div-add-mod}
use Rattle.std.proofs.Math.Pow.{pow_mono}
use Rattle.std.proofs.lemmas.Nat.{pow-add, pow_pos, shr_high, shr_below, shr-shr, mod_below, mod-pow-add}
use Rattle.std.proofs.lemmas.List.{take-append-le, take_all, length-take-le, length_push, get_or_push}
use Rattle.vcode_base.specs.declared.kind.Kind.{Kind}
use Rattle.kind_list.specs.Packed.{kinds_of, IsPacked, IsChunk}
use Rattle.kind_list.specs.Words.{number_of}
use Rattle.kind_list.specs.Lists.{number_in, kinds_in, AreInWords}
use Rattle.kind_list.proofs.Values.{value-lt, value-append, value-drop, value-take}
use Rattle.kind_list.proofs.Digits.{Holds, holds, held, held_chunk, Holds-append, Holds-take, Holds-drop, Holds-lt}
use Rattle.kind_list.proofs.Numbers.{number_value, low_there, word_lt}

-- a last word after others
number_more : (ws : List ℕ) (last : ℕ) → last < 2 ^ 64 → number_in ws last ≡ last * 2 ^ (64 * length ws) + number_of ws
unfolding number_of
number_more ws last fits = grind (arith, mod-eq_of_lt fits, value-append number_value ws (last ∷ []))

-- the number of the words, of which the last has the highest bits
record Parts (len : ℕ) (ws : List ℕ) (last : ℕ) : Type 0 where
  number : number_in ws last ≡ last * 2 ^ (64 * (len / 32)) + number_of ws
  high : number_in ws last / 2 ^ (64 * (len / 32)) ≡ last

parts : {len : ℕ} {ws : List ℕ} {last : ℕ} → AreInWords len ws last → Parts len ws last
parts {len} {ws} {last} words =
    let number = number_more ws last words.fits in
    record {
      number = rw (← words.full) number;
      high = rw (← words.full) (rw number (shr_high last _ _ (value-lt number_value ws)));
    }

pub last_lt : {len : ℕ} {ws : List ℕ} {last : ℕ} → AreInWords len ws last → last < 2 ^ (2 * (len % 32))
last_lt {len} {ws} {last} words =
    let below = shr_below (number_in ws last) (2 * (len % 32)) (64 * (len / 32)) in
    grind (arith, words.packed.fits, (parts words).high, below)

-- the words hold the kinds of their number
held_number : {len n : ℕ} {ws : List ℕ} {last : ℕ} {ks : List Kind} → Holds len n ks → length ws ≡ len / 32
    → last < 2 ^ 64 → number_in ws last ≡ n → AreInWords len ws last × (kinds_in len ws last ≡ ks)
held_number h full fits number = grind (arith, held h)

-- a stretch of the kinds
pub stretch : {len count : ℕ} {ws : List ℕ} {last : ℕ} {ks : List Kind} (from : ℕ) → AreInWords len ws last
    → kinds_in len ws last ≡ ks → from + count ≤ length ks → count ≤ 32
    → IsChunk count (number_in ws last / 2 ^ (2 * from) % 2 ^ (2 * count))
    × (kinds_of count (number_in ws last / 2 ^ (2 * from) % 2 ^ (2 * count)) ≡ take count (drop from ks))
stretch {len} {count} from words is within few =
    let all = holds words.packed is in
    held_chunk few (Holds-take count (omega arith) (Holds-drop from (len - from) (omega arith) all refl) refl)

-- the last kinds, which are among those of the last word
pub last_stretch : {len count : ℕ} {ws : List ℕ} {last : ℕ} {ks : List Kind} → AreInWords len ws last
    → kinds_in len ws last ≡ ks → count ≤ len % 32
    → IsChunk count (last / 2 ^ (2 * (len % 32 - count)))
    × (kinds_of count (last / 2 ^ (2 * (len % 32 - count))) ≡ drop (length ks - count) ks)
last_stretch {len} {count} {ws} {last} words is few =
    let all = holds words.packed is in
    let from = 2 * (len % 32 - count) in
    let place : 64 * (len / 32) + from ≡ 2 * (len - count) = omega arith in
    let here = ap (λ n. n / 2 ^ from) (sym (parts words).high) ∙ shr-shr (number_in ws last) (64 * (len / 32)) from in
    rw (← all.long) (held_chunk (omega arith) (Holds-drop (len - count) count (omega arith) all (rw place at here)))

-- the kinds below a place
pub below : {len new : ℕ} {ws vs : List ℕ} {last : ℕ} {ks : List Kind} → AreInWords len ws last
    → kinds_in len ws last ≡ ks → new ≤ len → vs ≡ take (new / 32) ws
    → AreInWords new vs (get_or (ws ++ last ∷ []) (new / 32) 0 % 2 ^ (2 * (new % 32)))
    × (kinds_in new vs (get_or (ws ++ last ∷ []) (new / 32) 0 % 2 ^ (2 * (new % 32))) ≡ take new ks)
below {len} {new} {ws} {vs} {last} words was within is =
    let q = new / 32 in
    let s = 2 * (new % 32) in
    let xs = ws ++ last ∷ [] in
    let long = length_push ws last in
    let some : q ≤ length ws = omega (arith, words.full) in
    let full : length vs ≡ q = ap length is ∙ length-take-le q ws some in
    let least : s ≤ 64 = omega arith in
    let fits : get_or xs q 0 % 2 ^ s < 2 ^ 64 =
    omega (arith, mod_below (get_or xs q 0) (2 ^ s) (pow_pos s), pow_mono least) in
    let number : number_in vs (get_or xs q 0 % 2 ^ s) ≡ number_of xs % 2 ^ (2 * new) =
    let place : 2 * new ≡ s + 64 * q = omega arith in
    let more = number_more vs (get_or xs q 0 % 2 ^ s) fits in
    let high = value-drop number_value q xs in
    grind (arith, mod-pow-add, high, value-take number_value q xs, low_there xs q s, take-append-le) in
    held_number (Holds-take new within (holds words.packed was) refl) full fits number

-- more kinds in the last word
pub pushed : {len count bits new : ℕ} {ws : List ℕ} {last : ℕ} {ks ls : List Kind} → AreInWords len ws last
    → kinds_in len ws last ≡ ks → IsPacked (length ls) bits → kinds_of (length ls) bits ≡ ls → count ≡ length ls
    → len % 32 + count < 32 → new ≡ bits % 2 ^ (64 - 2 * (len % 32)) * 2 ^ (2 * (len % 32)) + last
    → AreInWords (len + count) ws new × (kinds_in (len + count) ws new ≡ ks ++ ls)
pushed {len} {count} {bits} {new} {ws} {last} {ks} {ls} words was packed also long few made =
    let s = 2 * (len % 32) in
    let more = holds packed also in
    let least : 2 * length ls ≤ 64 - s = omega arith in
    let room : bits < 2 ^ (64 - s) = omega (arith, Holds-lt more, pow_mono least) in
    let word : new ≡ bits * 2 ^ s + last = made ∙ ap (λ n. n * 2 ^ s + last) (mod-eq_of_lt room) in
    let fits : new < 2 ^ 64 = rw word (word_lt bits last s (omega arith) room (last_lt words)) in
    let place : 2 * len ≡ s + 64 * (len / 32) = omega arith in
    let number : number_in ws new ≡ bits * 2 ^ (2 * len) + number_in ws last =
    rw (number_more ws new fits, (parts words).number, words.full, word, place, pow-add 2 s (64 * (len / 32)))
    (omega arith) in
    rw long (held_number (Holds-append (holds words.packed was) more refl) (omega (arith, words.full)) fits number)

-- the last of them are taken off before
pub replaced : {len count more bits kept new : ℕ} {ws : List ℕ} {last : ℕ} {ks ls : List Kind} → AreInWords len ws last
    → kinds_in len ws last ≡ ks → IsPacked (length ls) bits → kinds_of (length ls) bits ≡ ls → more ≡ length ls
    → count ≤ length ks % 32 → length ks % 32 + length ls < 32 + count
    → kept ≡ last % 2 ^ (2 * (len % 32 - count))
    → new ≡ bits % 2 ^ (64 - 2 * (len % 32 - count)) * 2 ^ (2 * (len % 32 - count)) + kept
    → AreInWords (len - count + more) ws new
    × (kinds_in (len - count + more) ws new ≡ take (length ks - count) ks ++ ls)
replaced {len} {count} {kept = kept} {ws = ws} {last = last} {ks = ks} words was packed also long few room low made =
    let seen : len ≡ length ks = (holds words.packed was).long in
    let part : len % 32 - count ≡ (len - count) % 32 = omega arith in
    let full : length ws ≡ (len - count) / 32 = omega (arith, words.full) in
    let all = take_all ((len - count) / 32) ws (omega arith) in
    let word : get_or (ws ++ last ∷ []) ((len - count) / 32) 0 % 2 ^ (2 * ((len - count) % 32)) ≡ kept =
    grind (arith, get_or_push) in
    let cut = rw word at (below words was (let e : len - count ≤ len = omega arith in e) (sym all)) in
    rw (← seen) (pushed cut.0 cut.1 packed also long (omega arith) (rw part at made))

-- more kinds, which fill it
pub filled : {len count sum bits one two : ℕ} {ws vs : List ℕ} {last : ℕ} {ks ls : List Kind} → AreInWords len ws last
    → kinds_in len ws last ≡ ks → IsChunk (length ls) bits → kinds_of (length ls) bits ≡ ls → count ≡ length ls
    → 32 ≤ length ks % 32 + length ls → sum ≡ len + count
    → one ≡ bits % 2 ^ (64 - 2 * (len % 32)) * 2 ^ (2 * (len % 32)) + last
    → two ≡ bits / 2 ^ (64 - 2 * (len % 32)) → vs ≡ ws ++ one ∷ []
    → AreInWords sum vs two × (kinds_in sum vs two ≡ ks ++ ls)
filled {len} {bits = bits} {one = one} {two = two} {ws = ws} {vs = vs} {last = last} {ls = ls}
    words was chunk also long many all first next is =
    let q = len / 32 in
    let s = 2 * (len % 32) in
    let whole = holds words.packed was in
    let more = holds chunk.packed also in
    let same = whole.long in
    let low = bits % 2 ^ (64 - s) in
    let least : 2 * length ls ≤ 64 = omega (arith, chunk.few) in
    let fits : one < 2 ^ 64 =
    rw first (word_lt low last s (omega arith) (mod_below bits _ (pow_pos (64 - s))) (last_lt words)) in
    let above : two < 2 ^ 64 =
    omega (arith, next, div-le_self bits (2 ^ (64 - s)), Holds-lt more, pow_mono least) in
    let full : length vs ≡ q + 1 = omega (arith, ap length is, length_push ws one, words.full) in
    let bits_are = ap (λ n. n * (2 ^ s * 2 ^ (64 * q))) (div-add-mod bits (2 ^ (64 - s))) in
    let place : 2 * len ≡ s + 64 * q = omega arith in
    let next_place : 64 * (q + 1) ≡ (64 - s) + (s + 64 * q) = omega arith in
    let number : number_in vs two ≡ bits * 2 ^ (2 * len) + number_in ws last =
    rw (number_more vs two above, full, is, number_more ws one fits, (parts words).number, words.full, place)
    (rw (next_place, pow-add 2 (64 - s) (s + 64 * q), pow-add 2 s (64 * q), first, next) (omega (arith, bits_are))) in
    rw (all, long) (held_number (Holds-append whole more refl) (full ∙ omega arith) above number)
