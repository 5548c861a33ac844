-- Columns after an instruction, and after each two became one.
use Rattle.std.proofs.Common.{◌≡◌, ◌≢◌, ℕ, zero, suc, ◌+◌, ◌-◌, ◌*◌, ◌/◌, ◌<◌, ◌≤◌, List, [], ◌∷◌, ◌++◌, length, take}
use Rattle.std.proofs.Common.{get_or, max, min, refl, sym, ◌∙◌, ap, inl, inr, arith, length-set}
use Rattle.std.proofs.Common.{get_or-set_same, get_or-set_other, get_or-take, ext_get_or, length-take-le}
use Rattle.std.proofs.Math.ListN.{set}
use Rattle.std.proofs.lemmas.Bool.Decides.{nat_tests}
use Rattle.std.proofs.lemmas.Grind.{common_steps}
use Rattle.std.proofs.lemmas.List.{get_or_append_left, get_or_at}
use Rattle.std.proofs.lemmas.Nat.{mul-le}
use Rattle.std.specs.Prelude.{◌⊎◌}
use Rattle.job_profile.specs.declared.strip.Column.{Column}
use Rattle.job_profile.specs.declared.strip.TheConstants.{MOST_COLUMNS}
use Rattle.job_profile.specs.Columns.{joined, no_column, column_over, column_of, highest, halved}
use Rattle.job_profile.specs.Strips.{HasShape, IsStrip, AreJoined}

-- ---- columns as one

joined_assoc : (a b c : Column) → joined (joined a b) c ≡ joined a (joined b c)
joined_assoc a b c = grind (arith, nat_tests)

over_split : (of : ℕ → Column) (a m n : ℕ) →
    column_over of a (suc (m + n)) ≡ joined (column_over of a m) (column_over of (a + suc m) n)
over_split of a m zero = grind arith
over_split of a m (suc n) =
    let less : m + suc n ≡ suc (m + n) = omega arith in
    let place : a + suc (m + suc n) ≡ (a + suc m) + suc n = omega arith in
    (λ i. joined (column_over of a (less i)) (of (place i)))
    ∙ ap (λ (c : Column). joined c (of ((a + suc m) + suc n))) (over_split of a m n)
    ∙ joined_assoc (column_over of a m) (column_over of (a + suc m) n) (of ((a + suc m) + suc n))

-- ---- the greatest

pub highest_push : (cs : List Column) (c : Column) → highest (cs ++ c ∷ []) ≡ max (highest cs) c.most
highest_push [] c = omega arith
highest_push (d ∷ cs) c = omega (arith, highest_push cs c)

pub highest_set : (cs : List Column) (i : ℕ) (c : Column) → i < length cs →
    highest (set cs i (joined (get_or cs i no_column) c)) ≡ max (highest cs) c.most
highest_set [] i c h = absurd (omega arith)
highest_set (d ∷ cs) zero c h = omega arith
highest_set (d ∷ cs) (suc i) c h = omega (arith, highest_set cs i c (omega arith))

pub highest_halved : (cs : List Column) → highest (halved cs) ≡ highest cs
highest_halved [] = refl
highest_halved (a ∷ []) = refl
highest_halved (a ∷ b ∷ cs) = omega (arith, highest_halved cs)

-- ---- each two as one

get_halved : (cs : List Column) (i : ℕ) → i + i + 1 < length cs →
    get_or (halved cs) i no_column ≡ joined (get_or cs (i + i) no_column) (get_or cs (i + i + 1) no_column)
get_halved [] i h = absurd (omega arith)
get_halved (a ∷ []) i h = absurd (omega arith)
get_halved (a ∷ b ∷ cs) zero h = refl
get_halved (a ∷ b ∷ cs) (suc i) h =
    let even : suc (suc (i + i)) ≡ suc i + suc i = omega arith in
    let odd : suc (suc (i + i + 1)) ≡ suc i + suc i + 1 = omega arith in
    get_halved cs i (omega arith)
    ∙ (λ j. joined (get_or (a ∷ b ∷ cs) (even j) no_column) (get_or (a ∷ b ∷ cs) (odd j) no_column))

pub length_halved : (cs : List Column) (h : ℕ) → length cs ≡ h + h → length (halved cs) ≡ h
length_halved [] h e = omega arith
length_halved (a ∷ []) h e = absurd (omega arith)
length_halved (a ∷ b ∷ cs) zero e = absurd (omega arith)
length_halved (a ∷ b ∷ cs) (suc h) e = omega (arith, length_halved cs h (omega arith))

-- the first half of columns of which each two were put there as one
pub first_half : (old new : List Column) (h : ℕ) → length old ≡ h + h → AreJoined old new → take h new ≡ halved old
first_half old new h even j =
    let long : length (take h new) ≡ h = length-take-le h new (omega (arith, j.same_length)) in
    ext_get_or no_column (take h new) (halved old) (omega (arith, long, length_halved old h even)) (λ i below.
    get_or-take h new i no_column (omega (arith, long)) ∙ j.each i (omega (arith, long))
    ∙ sym (get_halved old i (omega (arith, long))))

-- ---- what an instruction adds

-- a column with room is there
pub some_columns : (n count each room : ℕ) → HasShape n count each room → 0 < room → 0 < count
some_columns n count each room h some = grind (arith, h.covered)

module _ {of : ℕ → Column} {n : ℕ} {cs : List Column} {each room : ℕ} (s : IsStrip of n cs each room) where
  -- a whole column is the same after an instruction more
  same_more : (i : ℕ) → (i + 1) * each ≤ n → i < length cs → get_or cs i no_column ≡ column_of of each (n + 1) i
  same_more i whole h = s.means i h ∙ ap (column_over of (i * each)) (omega (arith, s.shape.left))

  -- a new column
  pub begun : room ≡ 0 → length cs < MOST_COLUMNS → IsStrip of (n + 1) (cs ++ of n ∷ []) each (each - 1)
  begun none few = record {
    shape = record {
      covered = grind (arith, common_steps, s.shape.covered, s.shape.left);
      left = omega (arith, s.shape.left);
      few = grind (arith, common_steps);
    };
    power = s.power;
    fine = grind (arith, s.fine);
    means = λ i h. at i (grind (arith, common_steps));
  }
    where
      at : (i : ℕ) → (i < length cs) ⊎ (i ≡ length cs) →
          get_or (cs ++ of n ∷ []) i no_column ≡ column_of of each (n + 1) i
      at i (inl h) =
          let rows : (i + 1) * each ≤ length cs * each =
          mul-le (i + 1) each (length cs) each (omega arith) (omega arith) in
          get_or_append_left cs (of n ∷ []) no_column i h ∙ same_more i (omega (arith, s.shape.covered)) h
      at i (inr e) = grind (arith, get_or_at, s.shape)

  -- the last column goes on
  pub widened : (last : ℕ) → last + 1 ≡ length cs → 0 < room →
      IsStrip of (n + 1) (set cs last (joined (get_or cs last no_column) (of n))) each (room - 1)
  widened last is some = record {
    shape = record {
      covered = rw length-set (omega (arith, s.shape.covered));
      left = omega (arith, s.shape.left);
      few = rw length-set s.shape.few;
    };
    power = s.power;
    fine = grind (arith, s.fine);
    means = λ i h. at i (grind (arith, length-set));
  }
    where
      begins : last * each + each ≡ n + room
      begins = grind (arith, s.shape)

      more : min each (n + 1 - last * each) - 1 ≡ suc (min each (n - last * each) - 1)
      more = omega (arith, begins, s.shape.left)

      place : last * each + suc (min each (n - last * each) - 1) ≡ n
      place = omega (arith, begins, s.shape.left)

      at : (i : ℕ) → (i + 1 < length cs) ⊎ (i ≡ last) →
          get_or (set cs last (joined (get_or cs last no_column) (of n))) i no_column ≡ column_of of each (n + 1) i
      at i (inl h) =
          let rows : (i + 2) * each ≤ length cs * each =
          mul-le (i + 2) each (length cs) each (omega arith) (omega arith) in
          let other : i ≢ last = omega arith in
          get_or-set_other cs last i _ no_column other
          ∙ same_more i (omega (arith, s.shape.covered, s.shape.left)) (omega arith)
      at i (inr e) =
          rw e (get_or-set_same cs last _ no_column (omega arith)
          ∙ rw (s.means last (omega arith), more, place))

  -- a whole column
  full : (i : ℕ) → (i + 1) * each ≤ n → i < length cs → get_or cs i no_column ≡ column_over of (i * each) (each - 1)
  full i whole h = s.means i h ∙ ap (column_over of (i * each)) (omega (arith, s.shape.left))

  -- each two became one
  pub folded : (h : ℕ) → h ≡ MOST_COLUMNS / 2 → length cs ≡ h + h → room ≡ 0 →
      IsStrip of n (halved cs) (each * 2) 0
  folded h half even none = record {
    shape = record {
      covered = omega (arith, ap (λ (k : ℕ). k * (each * 2)) long, count_is, s.shape.covered, none);
      left = omega (arith, s.shape.left);
      few = omega (arith, long, even, s.shape.few);
    };
    power = (s.power.0 + 1, grind (arith, common_steps, s.power.1));
    fine = inr (omega (arith, ap (λ (k : ℕ). k * (each * 2)) half, count_is, s.shape.covered, none));
    means = λ i below. at i (omega (arith, long));
  }
    where
      long : length (halved cs) ≡ h
      long = length_halved cs h even

      count_is : h * (each * 2) ≡ length cs * each
      count_is = rw even (omega arith)

      at : (i : ℕ) → i < h → get_or (halved cs) i no_column ≡ column_of of (each * 2) n i
      at i below =
          let inside : i + i + 1 < length cs = omega (arith, even) in
          let rows : (i + i + 2) * each ≤ length cs * each =
          mul-le (i + i + 2) each (length cs) each (omega arith) (omega arith) in
          let covered = s.shape.covered in
          let some = s.shape.left in
          let begins : i * (each * 2) ≡ (i + i) * each = omega arith in
          let both : min (each * 2) (n - i * (each * 2)) - 1 ≡ suc ((each - 1) + (each - 1)) = omega arith in
          let place : (i + i + 1) * each ≡ (i + i) * each + suc (each - 1) = omega arith in
          get_halved cs i inside
          ∙ (λ j. joined (full (i + i) (omega arith) (omega arith) j) (full (i + i + 1) (omega arith) inside j))
          ∙ (λ j. joined (column_over of ((i + i) * each) (each - 1)) (column_over of (place j) (each - 1)))
          ∙ sym (over_split of ((i + i) * each) (each - 1) (each - 1))
          ∙ (λ j. column_over of (sym begins j) (sym both j))
