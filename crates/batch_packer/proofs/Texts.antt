-- The text of a file, made byte by byte.
use Rattle.std.proofs.Common.{◌≡◌, ℕ, suc, ◌-◌, false, List, ◌∷◌, [], ◌++◌, length, get_or, append_assoc, arith}
use Rattle.std.specs.Prelude.{◌==◌, not, if◌then◌else◌}
use Rattle.std.proofs.lemmas.Bool.Decides.{nat_tests}
use Rattle.std.proofs.lemmas.List.{drop_all, drop_more, take_rest}
use Rattle.batch_packer.specs.Joins.{with_last_feed}

last_fed : (xs : List ℕ) (i : ℕ) → suc i ≡ length xs
    → with_last_feed xs ≡ (if get_or xs i 0 == 10 then xs else xs ++ 10 ∷ [])
unfolding with_last_feed
last_fed (b ∷ c ∷ bs) (suc i) e = grind (arith, last_fed (c ∷ bs) i)
last_fed xs i e = grind arith

-- by the test of the last byte
pub last_is : (xs : List ℕ) → length xs == 0 ≡ false
    → with_last_feed xs ≡ (if not (get_or xs (length xs - 1) 0 == 10) then xs ++ 10 ∷ [] else xs)
last_is xs some = grind (arith, nat_tests, last_fed xs (length xs - 1))

-- what a step of a loop over the bytes of a file needs
pub ruleset steps = (drop_more, drop_all, take_rest, append_assoc)
