-- Lists of counts.
use Rattle.std.proofs.Common.{◌≡◌, ℕ, zero, suc, ◌+◌, ◌<◌, ◌≤◌, cond, eqb, List, [], ◌∷◌, drop, length, take, get_or}
use Rattle.std.proofs.Common.{None, slice_get, refl, arith, get_or-set_other, get_or-set_same}
use Rattle.std.proofs.Math.ListN.{set}
use Rattle.std.proofs.lemmas.Bool.Decides.{nat_tests}
use Rattle.std.proofs.lemmas.List.Sums.{sum_by-cons, sum_by-set, sum_by-take-drop, sum_by-take-le}
use Rattle.std.specs.Prelude.{slice_index_or, sum}
use Rattle.job_steps.specs.States.{Task}
use Rattle.job_profile.specs.Counts.{times_of, times_until}
use Rattle.job_profile.specs.Sound.{CountAlike}

-- the counts after one of them is 1 more
pub record IsMore (old new : List ℕ) (place : ℕ) : Type 0 where
  pub each : (k : ℕ) → get_or new k 0 ≡ get_or old k 0 + cond (eqb place k) 1 0
  pub total : sum new ≡ sum old + 1

-- counts that are alike but for one that is 1 more
pub more_by : (was grown times : List ℕ) (place : ℕ) → CountAlike was grown → place < length grown →
    times ≡ set grown place (get_or grown place 0 + 1) → IsMore was times place
more_by was grown times place alike there is =
    grind (arith, nat_tests, get_or-set_same, get_or-set_other, sum_by-set)

-- ---- a part of the counts

-- a part sums to no more than all
pub part_sum_le : (xs : List ℕ) (first count : ℕ) → sum (take count (drop first xs)) ≤ sum xs
part_sum_le xs first count =
    let one = sum_by-take-le (λ (x : ℕ). x) (drop first xs) count in
    omega (arith, sum_by-take-drop (λ (x : ℕ). x) xs first)

part_more : (xs : List ℕ) (first count : ℕ) →
    sum (take (suc count) (drop first xs)) ≡ get_or xs first 0 + sum (take count (drop (suc first) xs))
part_more [] first count = omega (arith, part_sum_le [] first (suc count), part_sum_le [] (suc first) count)
part_more (x ∷ xs) zero count = sum_by-cons (λ (n : ℕ). n) x (take count xs)
part_more (x ∷ xs) (suc first) count = part_more xs first count

pub part_is : (task : Task) (n : ℕ) (times : List ℕ) →
    ((line : ℕ) → get_or times line 0 ≡ times_until task line n) → (first count : ℕ) →
    sum (take count (drop first times)) ≡ times_of task first count n
part_is task n times each first zero = refl
part_is task n times each first (suc count) =
    grind (arith, part_more, each, part_is task n times each (suc first) count)

-- nothing is read past the end of a list
pub missing_at : {X : Type 0} (xs : List X) (n : ℕ) (d : X) → slice_get xs n ≡ None → slice_index_or xs n d ≡ d
missing_at [] n d none = refl
missing_at (x ∷ xs) zero d none = grind arith
missing_at (x ∷ xs) (suc n) d none = missing_at xs n d none
