-- What is cut off the report on a batch of joined files for each file is the report on the file.
use Rattle.std.proofs.Common.{◌≡◌, ◌+◌, ℕ, List, [], ◌∷◌, sym, ap, subst, ◌∙◌, Result, Ok, Err}
use Rattle.std.specs.Prelude.{All}
use Rattle.std.proofs.lemmas.List.Elements.{All-head, All-tail}
use Rattle.vcode_base.specs.Lines.{line_feeds}
use Rattle.vcode_base.specs.declared.rule.Rule.{Rule}
use Rattle.signatures.specs.First.{EveryTextIsRead, OneReading}
use Rattle.batch_reader.specs.declared.entry.Batch.TheVariants.{Jobs}
use Rattle.batch_reader.specs.Batches.{JobText, Refusal, RuledJobs, jobs_of}
use Rattle.batch_reader.specs.Fates.{AreEntries, IsBatch, IsEntry, JobEntry}
use Rattle.batch_front.specs.Reports.{report_of, ruled_entry}
use Rattle.batch_packer.specs.Joins.{IsOneJob, OneJob, jobs_behind_lines, joined, joined_jobs, moved, rule_line}
use Rattle.batch_packer.specs.Joins.{text_of}
use Rattle.batch_packer.specs.Laws.{JoinedJobs}
use Rattle.report_laws.specs.EntryParts.{entry_parts}
use Rattle.report_laws.specs.Laws.{AreOwnReports, PackedReportsAreCut}
use Rattle.report_laws.proofs.FateLemmas.{files_are_cut}
use Rattle.report_laws.proofs.NumberLemmas.{one_numbered}
use Rattle.report_splitter.specs.ReportTexts.{own_report}

abbrev jobs_or : List JobText → Result RuledJobs Refusal → List JobText
jobs_or jobs (Ok found) = found.1
jobs_or jobs (Err refusal) = jobs

abbrev ruled_jobs : Rule → List JobText → Result RuledJobs Refusal
ruled_jobs rule jobs = Ok (rule, jobs)

same_jobs : (rule : Rule) (input : List ℕ) (jobs others : List JobText) → jobs_of input ≡ ruled_jobs rule jobs
    → jobs_of input ≡ ruled_jobs rule others → jobs ≡ others
same_jobs rule input jobs others e f = ap (jobs_or jobs) (sym e ∙ f)

module _ (every : EveryTextIsRead) (one : OneReading) (rule : Rule) (region : ℕ) where
  own_is_cut : (n : ℕ) (file : OneJob) (own other : JobEntry) → IsOneJob rule file
      → IsEntry region (moved n file.job) other → IsBatch region file.bytes (Jobs rule (own ∷ []))
      → own_report (n + 1) (entry_parts (ruled_entry rule other)) ≡ report_of (Jobs rule (own ∷ []))
  own_is_cut n file own other is entry b =
      let jobs : b.0 ≡ file.job ∷ [] = same_jobs rule file.bytes b.0 (file.job ∷ []) b.1 is in
      let entries : AreEntries region (file.job ∷ []) (own ∷ []) =
      subst (λ (js : List JobText). AreEntries region js (own ∷ [])) jobs b.2 in
      files_are_cut every one rule region n file.job own other (one_numbered file.bytes rule file.job is) entries.0
      entry

  each_is_cut : (n : ℕ) (files : List OneJob) (entries : List JobEntry) → All (IsOneJob rule) files
      → AreEntries region (jobs_behind_lines rule n files) entries → AreOwnReports rule region n files entries
  each_is_cut n [] [] all h = tt
  each_is_cut n [] (entry ∷ entries) all h = h
  each_is_cut n (file ∷ files) [] all h = h
  each_is_cut n (file ∷ files) (other ∷ entries) all h = (
    (λ own b. own_is_cut n file own other (All-head (IsOneJob rule) file files all) h.0 b),
    each_is_cut (n + line_feeds (text_of rule file.bytes)) files entries (All-tail (IsOneJob rule) file files all) h.1,
  )

pub packed_reports_are_cut : EveryTextIsRead → OneReading → JoinedJobs → PackedReportsAreCut
packed_reports_are_cut every one join rule region files entries all few fits b =
    let jobs : b.0 ≡ joined_jobs rule files =
    same_jobs rule (joined rule files) b.0 (joined_jobs rule files) b.1 (join rule files all few fits) in
    each_is_cut every one rule region (line_feeds (rule_line rule)) files entries all
    (subst (λ (js : List JobText). AreEntries region js entries) jobs b.2)
