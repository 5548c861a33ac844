-- What a ticket asks, and when words are what its instruction means.
use Rattle.std.specs.Prelude.{◌≡◌, ℕ, ℤ, ◌+◌, ◌≤◌, List, length, take, drop, Some, None, Result, MatchResult}
use Rattle.vcode_base.specs.declared.op.Op.{Op}
use Rattle.vcode_base.specs.declared.fault.DataFault.{DataFault}
use Rattle.vcode_base.specs.Kinds.{HaveKinds, source_kinds}
use Rattle.vcode_base.specs.Meaning.{shape, value_fault, result_of, second_result_of}
use Rattle.job_steps.specs.Questions.{Question, need_words}

-- what is to be computed, for which step of which job, on a desk of `words` words
pub record Asked : Type 0 where
  pub job : ℕ
  pub step : ℕ
  pub words : ℕ
  pub question : Question

abbrev pub question_by : Op → List (List ℤ) → Question
question_by op sources = record { op = op; sources = sources }

abbrev pub asked_by : ℕ → ℕ → Op → List (List ℤ) → ℕ → Asked
asked_by job step op sources words =
    record { job = job; step = step; words = words; question = question_by op sources }

-- the operands are of the instruction's kinds, their shapes fit, and the results have room in `words` words
pub record CanAnswer (words : ℕ) (q : Question) : Type 0 where
  pub kinds : HaveKinds (source_kinds q.op) q.sources
  pub shaped : shape q.op q.sources ≡ None
  pub room : need_words q ≤ words

-- these are the results, one after the other, and there is no fault
pub record AreResults (q : Question) (first second : List ℤ) : Type 0 where
  pub no_fault : value_fault q.op q.sources ≡ None
  pub first_result : first ≡ result_of q.op q.sources
  pub second_result : second ≡ second_result_of q.op q.sources

-- the results are at the front, with these lengths
pub record StandInFront (q : Question) (results : List ℤ) (lengths : ℕ × ℕ) : Type 0 where
  pub within : lengths.0 + lengths.1 ≤ length results
  pub are_results : AreResults q (take lengths.0 results) (take lengths.1 (drop lengths.0 results))

-- the lengths of the results at the front, or the fault that the values have
abbrev pub IsAnswer : Question → Result (ℕ × ℕ) DataFault → List ℤ → Type 0
IsAnswer q answer results =
    MatchResult answer (StandInFront q results) (λ fault. value_fault q.op q.sources ≡ Some fault)
