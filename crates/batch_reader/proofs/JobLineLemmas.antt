-- What a JOB line's words give.
use Rattle.std.proofs.Common.{◌≡◌, ℕ, ◌≤◌, Bool, true, false, List, length, Some, ap, arith, rules}
use Rattle.std.proofs.Math.Bridge.{le_prop}
use Rattle.vcode_base.specs.Bytes.{decimal}
use Rattle.vcode_base.specs.declared.limits.Limits.{Limits}
use Rattle.vcode_base.specs.declared.limits.TheConstants.{MOST_WORDS, MOST_CELLS, MOST_CALLS, MOST_BUDGET}
use Rattle.batch_reader.specs.JobLines.{are_limits, limits_where, limits_of, number_of}

both : {a b : ℕ} {c d : ℕ} → IsProp ((a ≤ b) × (c ≤ d))
both = hlevel le_prop

limits_by : (words cells calls budget : ℕ) → words ≤ MOST_WORDS → ((1 ≤ cells) × (cells ≤ MOST_CELLS))
    → ((1 ≤ calls) × (calls ≤ MOST_CALLS)) → budget ≤ MOST_BUDGET → Limits
limits_by words cells calls budget w c k b =
    record {
      words = words;
      cells = cells;
      calls = calls;
      budget = budget;
      words_in_range = w;
      cells_in_range = c;
      calls_in_range = k;
      budget_in_range = b;
    }

-- the test that keeps them in range doesn't distinguish limits
same_limits : (words cells calls budget : ℕ) (w w' : words ≤ MOST_WORDS) (c c' : (1 ≤ cells) × (cells ≤ MOST_CELLS))
    (k k' : (1 ≤ calls) × (calls ≤ MOST_CALLS)) (b b' : budget ≤ MOST_BUDGET)
    → limits_by words cells calls budget w c k b ≡ limits_by words cells calls budget w' c' k' b'
same_limits words cells calls budget w w' c c' k k' b b' = cc (le_prop w w', both c c', both k k', le_prop b b')

found : (l : Limits) (b : Bool) (e : are_limits l.words l.cells l.calls l.budget ≡ b) → b ≡ true
    → limits_where l.words l.cells l.calls l.budget b e ≡ Some l
unfolding limits_by
found l true e n =
    ap Some (same_limits l.words l.cells l.calls l.budget _ l.words_in_range _ l.cells_in_range _ l.calls_in_range
    _ l.budget_in_range)
found l false e n = cc

-- limits are those of their numbers
pub limits_are : (l : Limits) → limits_of (Some l.words) (Some l.cells) (Some l.calls) (Some l.budget) ≡ Some l
limits_are l = grind (arith, found)

-- ---- numbers

pub number_is : (w : List ℕ) → length w ≤ 10 → number_of w ≡ decimal w
number_is w short = search rules
