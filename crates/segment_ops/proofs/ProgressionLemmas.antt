-- An arithmetic progression that is written step by step.
use Rattle.std.proofs.Common.{◌≡◌, ℕ, ◌+◌, ◌%◌, ◌^◌, ◌<◌, ℤ, pos, ◌+ℤ◌, ◌*ℤ◌, List, length, get_or}
use Rattle.std.proofs.Common.{get_or-set_other, arith, FitsSigned, w64, to_z, of_z}
use Rattle.std.proofs.Math.IntN.{+ℤ_assoc}
use Rattle.std.proofs.lemmas.Grind.{get_or-set_at}
use Rattle.std.proofs.lemmas.Int.{ints, wrapping_add_onto, int_wrap-add_left, to_z-of_z}
use Rattle.std.proofs.lemmas.List.FromFn.{fill_by_all}
use Rattle.vcode_base.specs.Elements.{wrap}
use Rattle.vcode_base.specs.Segments.{progression}

-- m are the bits of the number at i, and the code adds d to them
pub progression_step : (a d : ℤ) (i m : ℕ) → m < 2 ^ 64 → FitsSigned w64 d → to_z w64 m ≡ wrap (a +ℤ pos i *ℤ d)
    → to_z w64 ((m + of_z w64 d) % 2 ^ 64) ≡ wrap (a +ℤ pos (i + 1) *ℤ d)
progression_step a d i m bits fits so_far =
    let added = wrapping_add_onto w64 m d bits fits in
    let wrapped = int_wrap-add_left w64 (a +ℤ pos i *ℤ d) d in
    let more : pos (i + 1) *ℤ d ≡ pos i *ℤ d +ℤ d = grind (arith, ints) in
    grind (arith, +ℤ_assoc)

-- a list with at each place its number
pub progressed : (a d : ℤ) (n : ℕ) (out : List ℤ) → length out ≡ n
    → ((k : ℕ) → k < n → get_or out k (pos 0) ≡ wrap (a +ℤ pos k *ℤ d)) → out ≡ progression n a d
progressed a d n out long each = fill_by_all _ out n (pos 0) long each

pub ruleset progressions = (get_or-set_at, get_or-set_other, to_z-of_z, progression_step, progressed)
