-- What refuses a job's words and signatures moves with the lines of the job.
use Rattle.std.proofs.Common.{◌≡◌, ◌+◌, ℕ, Bool, List, arith, Result, Ok, Err}
use Rattle.std.specs.Prelude.{nat_lt, if◌then◌else◌}
use Rattle.vcode_base.specs.declared.limits.Limits.{Limits}
use Rattle.signatures.specs.Faults.{Fault}
use Rattle.signatures.specs.First.{EveryTextIsRead, IsReading, OneReading}
use Rattle.signatures.specs.Reading.{reading}
use Rattle.signatures.specs.Signatures.{Signature}
use Rattle.batch_reader.specs.declared.fault.JobFault.TheVariants.{WordsPastRegion, Sig}
use Rattle.batch_reader.specs.Chains.{result_and_then}
use Rattle.batch_reader.specs.Fates.{limits_within, refusal_by, signatures_of}
use Rattle.report_laws.specs.Laws.{SignaturesMove}
use Rattle.report_laws.specs.MovedCode.{further_on}

module _ (n : ℕ) where
  abbrev read_further_on : Result (List Signature) Fault → Result (List Signature) Fault
  read_further_on (Ok signatures) = Ok signatures
  read_further_on (Err fault) = Err (fault.0, fault.1 + n)

  is_read_further_on : (first : ℕ) (text : List ℕ) (r : Result (List Signature) Fault) → IsReading r first text
      → IsReading (read_further_on r) (first + n) text
  is_read_further_on first text r h1 = grind arith

  module _ (every : EveryTextIsRead) (one : OneReading) where
    reading_further_on : (first : ℕ) (text : List ℕ) → reading (first + n) text ≡ read_further_on (reading first text)
    reading_further_on first text = one (first + n) text (read_further_on (reading first text))
        (is_read_further_on first text (reading first text) (every first text))

    refusal_further_on : (r : Result (List Signature) Fault)
        → refusal_by Sig (read_further_on r) ≡ further_on n (refusal_by Sig r)
    refusal_further_on r = grind arith

    by_words : (large : Bool) (limits : Limits) (line first : ℕ) (text : List ℕ)
        → result_and_then (if large then Err (WordsPastRegion, line + n) else Ok limits) (λ _. refusal_by Sig
        (reading (first + n) text))
        ≡ further_on n (result_and_then (if large then Err (WordsPastRegion, line) else Ok limits)
        (λ _. refusal_by Sig (reading first text)))
    by_words large limits line first text = grind (arith, reading_further_on, refusal_further_on)

pub signatures_move : EveryTextIsRead → OneReading → SignaturesMove
unfolding signatures_of limits_within
signatures_move every one region n job =
    by_words n every one (nat_lt region job.head.limits.words) job.head.limits job.line job.signatures_line
    job.signatures
