-- What a good JOB line says.
use Rattle.std.specs.Prelude.{◌≡◌, ℕ, ◌≤◌, nat_le, Bool, true, false, ◌&&◌, if◌then◌else◌, List, []}
use Rattle.std.specs.Prelude.{◌∷◌, codes, length, Option, Some, None, refl}
use Rattle.std.specs.List.{list_all}
use Rattle.std.specs.Str.{bytes_eq}
use Rattle.std.proofs.Common.{arith}
use Rattle.std.proofs.lemmas.Bool.Decides.{nat_tests}
use Rattle.vcode_base.specs.Bytes.{decimal, is_visible}
use Rattle.vcode_base.specs.declared.limits.Limits.{Limits}
use Rattle.vcode_base.specs.declared.limits.TheConstants.{LONGEST_NAME, MOST_WORDS, MOST_CELLS, MOST_CALLS, MOST_BUDGET}

-- a job's name and its limits
pub record JobLine : Type 0 where
  pub name : List ℕ
  pub limits : Limits

-- some bytes, not too many, each of them visible
abbrev pub is_name : List ℕ → Bool
is_name w = nat_le 1 (length w) && nat_le (length w) LONGEST_NAME && list_all is_visible w

-- a number of at most 10 decimal digits
abbrev pub number_of : List ℕ → Option ℕ
number_of w = if nat_le (length w) 10 then decimal w else None

-- the numbers are within their ranges
abbrev pub are_limits : ℕ → ℕ → ℕ → ℕ → Bool
are_limits words cells calls budget =
    nat_le words MOST_WORDS && (nat_le 1 cells && nat_le cells MOST_CELLS) && (nat_le 1 calls && nat_le calls
    MOST_CALLS)
    && nat_le budget MOST_BUDGET

-- the same as facts
pub record AreLimits (words cells calls budget : ℕ) : Type 0 where
  pub words_fit : words ≤ MOST_WORDS
  pub cells_fit : (1 ≤ cells) × (cells ≤ MOST_CELLS)
  pub calls_fit : (1 ≤ calls) × (calls ≤ MOST_CALLS)
  pub budget_fit : budget ≤ MOST_BUDGET

pub limit_facts : (words cells calls budget : ℕ) → are_limits words cells calls budget ≡ true
    → AreLimits words cells calls budget
limit_facts words cells calls budget h = record {
  words_fit = grind (arith, nat_tests);
  cells_fit = (grind (arith, nat_tests), grind (arith, nat_tests));
  calls_fit = (grind (arith, nat_tests), grind (arith, nat_tests));
  budget_fit = grind (arith, nat_tests);
}

-- limits of these numbers, if they are within their ranges
abbrev pub limits_where : (words cells calls budget : ℕ) (b : Bool) → are_limits words cells calls budget ≡ b
    → Option Limits
limits_where words cells calls budget true h = Some (record {
  words = words;
  cells = cells;
  calls = calls;
  budget = budget;
  words_in_range = (limit_facts words cells calls budget h).words_fit;
  cells_in_range = (limit_facts words cells calls budget h).cells_fit;
  calls_in_range = (limit_facts words cells calls budget h).calls_fit;
  budget_in_range = (limit_facts words cells calls budget h).budget_fit;
})
limits_where words cells calls budget false h = None

abbrev pub limits_of : Option ℕ → Option ℕ → Option ℕ → Option ℕ → Option Limits
limits_of (Some words) (Some cells) (Some calls) (Some budget) =
    limits_where words cells calls budget (are_limits words cells calls budget) refl
limits_of _ _ _ _ = None

abbrev pub job_line_with : List ℕ → Option Limits → Option JobLine
job_line_with name None = None
job_line_with name (Some limits) = Some (record { name = name; limits = limits })

-- JOB, a name, and the four limits
abbrev pub job_line_of : List (List ℕ) → Option JobLine
job_line_of (keyword ∷ name ∷ words ∷ cells ∷ calls ∷ budget ∷ []) =
    if bytes_eq keyword (codes "JOB") && is_name name
    then job_line_with name (limits_of (number_of words) (number_of cells) (number_of calls) (number_of budget))
    else None
job_line_of _ = None
