-- The entries of a run, as they are put on and taken off.
use Rattle.std.proofs.Common.{◌≡◌, ℕ, ◌+◌, ◌-◌, ◌<◌, ◌≤◌, List, [], ◌∷◌, ◌++◌, drop, get_or, length, take}
use Rattle.std.proofs.Common.{None, slice_get, append_assoc, arith, length-append, length-drop}
use Rattle.std.specs.Prelude.{reverse}
use Rattle.std.proofs.lemmas.Option.{unwrap_or-slice_get}
use Rattle.std.proofs.lemmas.List.{drop_at, drop_more, get_or-drop, get_or_append_left, length-map, length-reverse}
use Rattle.std.proofs.lemmas.List.{length-take, reverse-append, take_more}
use Rattle.job_steps.specs.LeastLimits.{cells_in}
use Rattle.job_steps.specs.Steps.{Progress}
use Rattle.job_profile.specs.Walks.{lists_in}
use Rattle.job_history.proofs.Motions.{drop-reverse}

pub long_lists : (p : Progress) → cells_in p ≡ length (lists_in p)
long_lists p = grind (arith, length-map)

pub none_found : {E : Type 0} (xs : List E) (n : ℕ) (d : E) → slice_get xs n ≡ None → get_or xs n d ≡ d
none_found xs n d is = rw (← unwrap_or-slice_get xs n d, is)

-- one more entry is copied
pub copied_more : {E : Type 0} (xs ys : List E) (below lower place : ℕ) (x : E) → below + lower ≤ length xs →
    below ≤ place → place < below + lower → ys ≡ xs ++ take (place - below) (drop below xs) → x ≡ get_or ys place x →
    ys ++ x ∷ [] ≡ xs ++ take (place + 1 - below) (drop below xs)
copied_more xs ys below lower place x there from to is read =
    let next : place + 1 - below ≡ place - below + 1 = omega arith in
    let more = take_more (drop below xs) (place - below) x (omega (arith, length-drop below xs)) in
    let found = get_or-drop below xs (place - below) x in
    let here = get_or_append_left xs (take (place - below) (drop below xs)) x place (omega arith) in
    let same : below + (place - below) ≡ place = omega arith in
    grind (arith, append_assoc)

-- the operands go
pub replaced : {E : Type 0} (old : List E) (operands : ℕ) (news lists : List E) (n count : ℕ) (below : List E) →
    lists ≡ reverse news ++ drop operands (reverse old) → n ≡ length old - operands → count ≡ length lists - n →
    below ≡ take n old → reverse below ≡ drop (count - 0) lists
replaced old operands news lists n count below is n_is count_is below_is =
    grind (arith, drop-reverse, drop_at, length-append, length-drop, length-reverse, length-take)

-- one of the results comes
pub put_on : {E : Type 0} (lists entries all : List E) (count done : ℕ) (none : E) → done < count →
    count ≤ length lists → reverse entries ≡ drop (count - done) lists →
    all ≡ entries ++ get_or lists (count - 1 - done) none ∷ [] → reverse all ≡ drop (count - (done + 1)) lists
put_on lists entries all count done none less enough is all_is = grind (arith, reverse-append, drop_more)
