-- Stretches of bits of the number that words make.
use Rattle.std.proofs.Common.{◌≡◌, ℕ, ◌+◌, ◌-◌, ◌*◌, ◌/◌, ◌%◌, ◌^◌, ◌<◌, ◌≤◌, List, length, drop, get_or, refl, sym}
use Rattle.std.proofs.Common.{◌∙◌, ap, arith}
use Rattle.std.specs.Prelude.{bit_and, bit_or}
use Rattle.std.proofs.Math.Nat.{add-zero, add-mul-div_right, mod-eq_of_lt, mul-mod_left}
use Rattle.std.proofs.Math.Pow.{mod-mod-pow}
use Rattle.std.proofs.lemmas.Nat.{mul-add-lt, pow_pos, pow-add, shl-shr, shr-shr, mod-pow-add, or_comm, or_shifted}
use Rattle.std.proofs.lemmas.Nat.{shr_below, shr_high, mod_low, mod_below, one_shl, and_mask, field_of}
use Rattle.std.proofs.lemmas.Nat.Bits.{ones_shr}
use Rattle.std.proofs.lemmas.List.{drop_more, length_push}
use Rattle.kind_list.specs.Words.{number_of}
use Rattle.kind_list.proofs.Values.{IsValue, value-drop}

pub number_value : IsValue number_of 64 (λ w. w % 2 ^ 64)
unfolding number_of
number_value = record { none = refl; more = λ w ws. refl; small = λ w. mod_below w (2 ^ 64) (pow_pos 64) }

shorter : (n more few : ℕ) → few ≤ more → n % 2 ^ more % 2 ^ few ≡ n % 2 ^ few
shorter n more few within =
    let all : (more - few) + few ≡ more = omega arith in rw all at (mod-mod-pow n (more - few) few)

mod_block : (a k lo j : ℕ) → lo < 2 ^ k → (a * 2 ^ k + lo) % 2 ^ (j + k) ≡ a % 2 ^ j * 2 ^ k + lo
mod_block a k lo j small = rw (mod-pow-add (a * 2 ^ k + lo) j k, shr_high a k lo small, mod_low a k lo small)

pub word_lt : (bits low s : ℕ) → s ≤ 64 → bits < 2 ^ (64 - s) → low < 2 ^ s → bits * 2 ^ s + low < 2 ^ 64
word_lt bits low s part room small =
    let all : s + (64 - s) ≡ 64 = omega arith in
    omega (arith, mul-add-lt bits (2 ^ s) low (2 ^ (64 - s)) room small, pow-add 2 s (64 - s), ap (λ n. 2 ^ n) all)

-- the word of these bits after lower ones
pub word_made : (bits low s k : ℕ) → k + s ≡ 64 → low < 2 ^ s
    → bit_or (bits * 2 ^ s % 2 ^ 64) low ≡ bits % 2 ^ k * 2 ^ s + low
word_made bits low s k all small =
    ap (λ n. bit_or (bits * 2 ^ s % 2 ^ n) low) (sym all)
    ∙ rw (mod-pow-add (bits * 2 ^ s) k s, shl-shr bits s, mul-mod_left bits (2 ^ s), add-zero)
    (or_shifted (bits % 2 ^ k) s low small)

-- the low bits of the word at a place
pub low_there : (ws : List ℕ) (q s : ℕ) → q < length ws → s ≤ 64 → number_of (drop q ws) % 2 ^ s ≡ get_or ws q 0 % 2 ^ s
low_there ws q s within part =
    let high = number_of (drop (q + 1) ws) in
    let n = high * 2 ^ 64 + get_or ws q 0 % 2 ^ 64 in
    let one = shorter (get_or ws q 0) 64 s part in
    grind (arith, drop_more ws q 0 within, number_value.more, shorter n 64 s part, mod_low high, one)

shifted : (high low s k : ℕ) → k + s ≡ 64 → (high * 2 ^ 64 + low) / 2 ^ s ≡ high * 2 ^ k + low / 2 ^ s
shifted high low s k all =
    grind (arith, add-mul-div_right low (high * 2 ^ k) (pow_pos s), pow-add 2 k s, ap (λ n. 2 ^ n) all)

pub read_within : (ws : List ℕ) (place count : ℕ) → place / 32 < length ws → get_or ws (place / 32) 0 < 2 ^ 64
    → 2 * (place % 32) + 2 * count ≤ 64
    → number_of ws / 2 ^ (2 * place) % 2 ^ (2 * count)
    ≡ get_or ws (place / 32) 0 / 2 ^ (2 * (place % 32)) % 2 ^ (2 * count)
read_within ws place count within small few =
    let q = place / 32 in
    let s = 2 * (place % 32) in
    let e : 2 * place ≡ 64 * q + s = omega arith in
    let low = low_there ws q (2 * count + s) within (omega arith) in
    rw (e, ← shr-shr (number_of ws) (64 * q) s, value-drop number_value q ws (omega arith))
    (rw (← field_of (number_of (drop q ws)) (2 * count) s, low) (field_of (get_or ws q 0) (2 * count) s))

pub read_across : (ws : List ℕ) (place count : ℕ) → place / 32 + 1 < length ws → get_or ws (place / 32) 0 < 2 ^ 64
    → count ≤ 32
    → number_of ws / 2 ^ (2 * place) % 2 ^ (2 * count)
    ≡ bit_or (get_or ws (place / 32) 0 / 2 ^ (2 * (place % 32)))
    (get_or ws (place / 32 + 1) 0 * 2 ^ (64 - 2 * (place % 32)) % 2 ^ 64) % 2 ^ (2 * count)
read_across ws place count within small few =
    let q = place / 32 in
    let s = 2 * (place % 32) in
    let e : 2 * place ≡ 64 * q + s = omega arith in
    let k = 64 - s in
    let w = get_or ws q 0 in
    let high = number_of (drop (q + 1) ws) in
    let all : s + k ≡ 64 = omega arith in
    let below : w / 2 ^ s < 2 ^ k = shr_below w k s (rw (let e : k + s ≡ 64 = omega arith in e) small) in
    let whole = shifted high w s k (omega arith) in
    let word = word_made (get_or ws (q + 1) 0) (w / 2 ^ s) k s all below in
    let block = mod_block high k (w / 2 ^ s) s below in
    let here = value-drop number_value q ws (omega arith) in
    let part = shorter (high * 2 ^ k + w / 2 ^ s) 64 (2 * count) (omega arith) in
    let there = low_there ws (q + 1) s within (omega arith) in
    grind (arith, shr-shr (number_of ws) (64 * q) s, drop_more ws q 0, number_value.more, mod-eq_of_lt, or_comm)

pub ruleset reads = (read_within, read_across, length_push)

-- ---- the low bits of a word

pub bits_below : (n k : ℕ) → k < 64 → bit_and n (1 * 2 ^ k % 2 ^ 64 - 1) ≡ n % 2 ^ k
bits_below n k few = rw (one_shl k 64 few) (and_mask n k)

pub first_ones : (n k : ℕ) → k ≤ 64 → bit_and n ((2 ^ 64 - 1) / 2 ^ (64 - k)) ≡ n % 2 ^ k
first_ones n k few =
    rw (ones_shr 64 (64 - k) (omega arith), let e : 64 - (64 - k) ≡ k = omega arith in e) (and_mask n k)

pub ruleset masks = (bits_below, first_ones)
