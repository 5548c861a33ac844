-- A job's own lines of a report.
use Rattle.std.proofs.Common.{arith, ◌≡◌, ℕ, zero, suc, List, [], ◌∷◌, slice_get, Some, Result, Ok, ap}
use Rattle.std.proofs.lemmas.Option.{none-some}
use Rattle.vcode_base.specs.declared.rule.Rule.{Rule}
use Rattle.job_steps.specs.Standings.{of_job}
use Rattle.batch_reader.specs.declared.entry.Batch.TheVariants.{Jobs}
use Rattle.batch_reader.specs.Batches.{JobText, Refusal, RuledJobs}
use Rattle.batch_reader.specs.Fates.{JobEntry, AreEntries, IsBatch, IsEntry}
use Rattle.batch_reader.specs.Laws.{OneEntry}
use Rattle.batch_front.specs.Laws.{HasJobAt, OwnLines, OwnLinesInBatches}
use Rattle.batch_front.specs.Reports.{entry_text, ruled_entry}

pub own_lines : OneEntry → OwnLines
own_lines one region place rule job first second x y =
    ap (λ (entry : JobEntry). entry_text place (ruled_entry rule entry)) (one region job first second x y)

one_ok : (xs ys : RuledJobs) → (let r : Result RuledJobs Refusal = Ok xs in r) ≡ Ok ys → xs ≡ ys
one_ok xs ys e = cc

-- the entry of a job's text
record EntryAt (region place : ℕ) (job : JobText) (entries : List JobEntry) : Type 0 where
  entry : JobEntry
  is_at : of_job place entries ≡ Some entry
  is_entry : IsEntry region job entry

entry_in : (region : ℕ) (jobs : List JobText) (entries : List JobEntry) → AreEntries region jobs entries →
    (i : ℕ) (job : JobText) → slice_get jobs i ≡ Some job → EntryAt region (suc i) job entries
entry_in region [] entries are i job e = absurd (none-some job e)
entry_in region (x ∷ jobs) [] are i job e = absurd are
entry_in region (x ∷ jobs) (entry ∷ entries) are zero job e = grind arith
entry_in region (x ∷ jobs) (entry ∷ entries) are (suc i) job e =
    let rest = entry_in region jobs entries are.1 i job e in
    record { entry = rest.entry; is_at = rest.is_at; is_entry = rest.is_entry }

entry_at : (region place : ℕ) (rule : Rule) (job : JobText) (input : List ℕ) (entries : List JobEntry) →
    IsBatch region input (Jobs rule entries) → HasJobAt place input job → EntryAt region place job entries
entry_at region place rule job input entries batch at = grind (arith, none-some, one_ok, entry_in, slice_get)

pub own_lines_in_batches : OneEntry → OwnLinesInBatches
own_lines_in_batches one region place rule job input other entries others batch again at there =
    let x = entry_at region place rule job input entries batch at in
    let y = entry_at region place rule job other others again there in
    grind (arith, one region job x.entry y.entry x.is_entry y.is_entry)
