-- The words of a range as a list of their own.
use Rattle.std.proofs.Common.{◌≡◌, ℕ, ◌+◌, ◌-◌, ◌<◌, ◌≤◌, Bool, false, List, length, get_or, sym, ◌∙◌, subst, arith}
use Rattle.std.specs.List.{All, between}
use Rattle.std.proofs.lemmas.List.Edits.{length-between, get_or-between}
use Rattle.holes.specs.FreeWords.{NoneFree}

-- if the list of a range has no free word, no word of the range is free
pub none_in_range : (words : List Bool) (place len : ℕ) → place + len ≤ length words →
    All (λ word. word ≡ false) (between place (place + len) words) → NoneFree words place len
none_in_range words place len within taken word from to =
    let there : place + (word - place) ≡ word = omega arith in
    let inside : word - place < length (between place (place + len) words) =
    omega (arith, length-between words place (place + len) within) in
    let read = get_or-between words place (place + len) (word - place) false (omega arith) in
    subst (λ k. get_or words k false ≡ false) there (sym read ∙ taken (word - place) false inside)
