-- Jobs are equal if their parts are.
use Rattle.std.proofs.lemmas.Bool.Decides.{Decides-at, Decides-and, Decides-like, Decides-eqb}
use Rattle.std.proofs.Common.{arith, ◌≡◌, ◌≤◌, ℕ, Bool, ◌&&◌, subst}
use Rattle.std.specs.Bool.{Decides}
use Rattle.std.specs.Coded.{le_prop, ×_prop}
use Rattle.std.specs.Cmp.Lexicographic.{pointwise}
use Rattle.std.specs.Prelude.{nat_eq}
use Rattle.std.proofs.lemmas.Slice.Eq.{slice_eq-Decides}
use Rattle.vcode_base.specs.declared.limits.Limits.{Limits}
use Rattle.vcode_base.specs.declared.limits.TheConstants.{MOST_WORDS, MOST_CELLS, MOST_CALLS, MOST_BUDGET}
use Rattle.verifier.specs.Typed.{TypedProgram}
use Rattle.job_steps.specs.States.{JobValue}
use Rattle.job_steps.proofs.laws.equal_jobs.Goals as goal

-- ---- limits, whose facts are propositions

abbrev limits_by : (w c k b : ℕ) → w ≤ MOST_WORDS → (1 ≤ c) × (c ≤ MOST_CELLS) → (1 ≤ k) × (k ≤ MOST_CALLS) →
    b ≤ MOST_BUDGET → Limits
limits_by w c k b h i j l = record {
  words = w;
  cells = c;
  calls = k;
  budget = b;
  words_in_range = h;
  cells_in_range = i;
  calls_in_range = j;
  budget_in_range = l;
}

same_facts : (w c k b : ℕ) (h h' : w ≤ MOST_WORDS) (i i' : (1 ≤ c) × (c ≤ MOST_CELLS))
    (j j' : (1 ≤ k) × (k ≤ MOST_CALLS)) (l l' : b ≤ MOST_BUDGET) →
    limits_by w c k b h i j l ≡ limits_by w c k b h' i' j' l'
same_facts w c k b h h' i i' j j' l l' =
    λ t. limits_by w c k b (le_prop h h' t) (×_prop le_prop le_prop i i' t) (×_prop le_prop le_prop j j' t)
    (le_prop l l' t)

same_numbers : (x y : Limits) → x.words ≡ y.words → x.cells ≡ y.cells → x.calls ≡ y.calls → x.budget ≡ y.budget → x ≡ y
same_numbers x y ew ec ek eb =
    subst (λ w. (h : w ≤ MOST_WORDS) → x ≡ limits_by w y.cells y.calls y.budget h y.cells_in_range y.calls_in_range
    y.budget_in_range) ew (λ h. subst (λ c. (i : (1 ≤ c) × (c ≤ MOST_CELLS)) → x ≡ limits_by x.words c y.calls y.budget
    h i y.calls_in_range y.budget_in_range) ec (λ i. subst (λ k. (j : (1 ≤ k) × (k ≤ MOST_CALLS)) → x ≡ limits_by
    x.words x.cells k y.budget h i j y.budget_in_range) ek (λ j. subst (λ b. (l : b ≤ MOST_BUDGET) → x ≡ limits_by
    x.words x.cells x.calls b h i j l) eb (λ l. same_facts x.words x.cells x.calls x.budget x.words_in_range h
    x.cells_in_range i x.calls_in_range j x.budget_in_range l) y.budget_in_range) y.calls_in_range) y.cells_in_range)
    y.words_in_range

same_limits : (a b : Limits) → Decides (nat_eq a.words b.words &&
    (nat_eq a.cells b.cells && (nat_eq a.calls b.calls && nat_eq a.budget b.budget))) (a ≡ b)
same_limits a b = grind (arith, Decides-like, same_numbers, Decides-and, Decides-eqb)

-- ---- jobs

module _ {F : TypedProgram → TypedProgram → Bool} (exact : (p q : TypedProgram) → Decides (F p q) (p ≡ q)) where
  same_jobs : (s t : JobValue) → Decides (pointwise nat_eq s.name t.name && (F s.verified t.verified && (nat_eq
      s.limits.words t.limits.words && (nat_eq s.limits.cells t.limits.cells && (nat_eq s.limits.calls t.limits.calls &&
      nat_eq s.limits.budget t.limits.budget))))) (s ≡ t)
  same_jobs s t = grind (arith, Decides-like, Decides-and, slice_eq-Decides, Decides-eqb, same_limits)

pub returns : goal.returns
returns g c = Decides-at _ _ c.eq.ensures (same_jobs c.equality_is_exact.ensures c.args.left.now c.args.right.now)
