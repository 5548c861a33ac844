-- Lists that grow by pieces, or are compared by them.
use Rattle.std.proofs.Common.{◌≡◌, ℕ, ◌+◌, ◌-◌, ◌≤◌, List, ◌++◌, length, take, drop, arith}
use Rattle.std.proofs.Math.Seq.{take-add}
use Rattle.std.proofs.lemmas.List.{append_assoc, take-append-le, drop-append-le, drop-drop, drop-take, take-take}
use Rattle.std.proofs.lemmas.List.{length-drop, length-take-le}
use Rattle.vcode_base.specs.declared.kind.Kind.{Kind}

-- the next piece of a list, after those before it
pub next_piece : (base src : List Kind) (place step next : ℕ) → next ≡ place + step
    → (base ++ take place src) ++ take step (drop place src) ≡ base ++ take next src
next_piece base src place step next sum =
    grind (arith, take-add place step src, append_assoc)

-- the next piece of what is in a list from a place on, and of this list, which has grown since
pub later_piece : (base src : List Kind) (from place step next : ℕ) → next ≡ place + step
    → (base ++ take place (drop from src)) ++ take step (drop (from + place) src) ≡ base ++ take next (drop from src)
later_piece base src from place step next sum =
    grind (arith, take-add place step (drop from src), append_assoc, drop-drop)

pub piece_before : (ks xs : List Kind) (from step : ℕ) → from + step ≤ length ks
    → take step (drop from (ks ++ xs)) ≡ take step (drop from ks)
piece_before ks xs from step within =
    grind (arith, drop-append-le, take-append-le, length-drop)

pub length_piece : (ks : List Kind) (from count : ℕ) → from + count ≤ length ks
    → length (take count (drop from ks)) ≡ count
length_piece ks from count within = length-take-le count (drop from ks) (omega (arith, length-drop from ks))

-- a piece of what is in a list from a place on
pub piece_within : (ks : List Kind) (from all place step : ℕ) → place + step ≤ all
    → take step (drop place (take all (drop from ks))) ≡ take step (drop (from + place) ks)
piece_within ks from all place step within =
    grind (arith, drop-take place (all - place) (drop from ks), drop-drop, take-take)

-- the next piece is the same, too
pub same_on : (ks ls piece : List Kind) (from place end : ℕ) → take place (drop from ks) ≡ take place ls
    → piece ≡ take (end - place) (drop place ls) → take (length piece) (drop (from + place) ks) ≡ piece
    → place ≤ end → end ≤ length ls → take end (drop from ks) ≡ take end ls
same_on ks ls piece from place end so_far is here more within =
    let one = take-add place (end - place) (drop from ks) in
    grind (arith, one, take-add place (end - place) ls, drop-drop, length-drop, length-take-le)

pub ruleset pieces = (length_piece, next_piece, later_piece, piece_before, piece_within, same_on)
