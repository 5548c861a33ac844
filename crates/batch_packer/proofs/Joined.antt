-- The batch of files of one job each.
use Rattle.std.proofs.Common.{◌≡◌, ℕ, zero, suc, ◌+◌, ◌≤◌, true, List, [], ◌∷◌, ◌++◌, length, Ok, None}
use Rattle.std.proofs.Common.{refl, ap, ◌∙◌, arith}
use Rattle.std.specs.Prelude.{All}
use Rattle.std.proofs.lemmas.List.Elements.{All-head, All-tail}
use Rattle.vcode_base.specs.Lines.{line_feeds}
use Rattle.vcode_base.specs.LineWords.{words_of_line}
use Rattle.vcode_base.specs.declared.limits.TheConstants.{MOST_BATCH_BYTES, MOST_JOBS}
use Rattle.vcode_base.specs.declared.rule.Rule.{Rule}
use Rattle.vcode_base.specs.declared.rule.Rule.TheVariants.{First, Second}
use Rattle.batch_reader.specs.Batches.{JobText, batch_in, jobs_after, jobs_in, jobs_of, lines_behind_blanks, under}
use Rattle.batch_reader.specs.Headings.{BatchLine, heading_of, is_second_rule, numbered_lines}
use Rattle.batch_reader.specs.JobLines.{job_line_of}
use Rattle.batch_reader.specs.Lines.{batch_words, lines}
use Rattle.batch_packer.specs.Joins.{IsOneJob, OneJob, jobs_behind_lines, moved, rule_line, ruled_text, text_of}
use Rattle.batch_packer.specs.Joins.{texts_of, with_last_feed}
use Rattle.batch_packer.specs.Laws.{JoinedJobs}
use Rattle.batch_packer.proofs.Blanked.{are_lines, blanked_lines, first_jobs, jobs_none, second_jobs}
use Rattle.batch_packer.proofs.Continued.{IsContinued, job_follows}
use Rattle.batch_packer.proofs.JoinedLines.{continued_lines, ended, feeds_of_text, fitting_lines, length_ended}
use Rattle.batch_packer.proofs.JoinedLines.{lines_joined, plain_append, plain_lines}

-- ---- the text of a file

abbrev lines_in : List ℕ → List BatchLine
lines_in bytes = numbered_lines 1 MOST_BATCH_BYTES (lines bytes)

-- a file without its rule line has the same job at the same lines
ruled_jobs : (rule : Rule) (file : OneJob) → IsOneJob rule file
    → jobs_in MOST_JOBS (lines_in (ruled_text rule file.bytes)) ≡ Ok (file.job ∷ [])
unfolding jobs_of
ruled_jobs First file h = first_jobs MOST_JOBS (lines_in file.bytes) (file.job ∷ []) h
ruled_jobs Second file h =
    rw (blanked_lines file.bytes) (second_jobs MOST_JOBS 1 MOST_BATCH_BYTES (lines file.bytes) (file.job ∷ [])
    (are_lines file.bytes) h)

-- the lines after those of a text
abbrev lines_behind : ℕ → List ℕ → List ℕ → List BatchLine
lines_behind d text more = plain_lines (1 + (d + line_feeds (with_last_feed text))) (lines more)

text_lines : (d : ℕ) (text more : List ℕ)
    → plain_lines (1 + d) (lines (with_last_feed text ++ more))
    ≡ plain_lines (1 + d) (ended (lines text)) ++ lines_behind d text more
text_lines d text more =
    grind (arith, lines_joined text more, plain_append, length_ended (lines text), feeds_of_text text)

text_continued : (d : ℕ) (text more : List ℕ)
    → IsContinued d (lines_behind d text more) (lines_in text)
    (plain_lines (1 + d) (lines (with_last_feed text ++ more)))
text_continued d text more =
    rw (text_lines d text more) (continued_lines d 1 MOST_BATCH_BYTES (lines_behind d text more) (lines text))

-- the texts of files are their jobs
files_follow : (rule : Rule) (d room : ℕ) (files : List OneJob) → All (IsOneJob rule) files → length files ≤ room
    → jobs_in room (plain_lines (1 + d) (lines (texts_of rule files))) ≡ Ok (jobs_behind_lines rule d files)
unfolding plain_lines lines
files_follow rule d room [] all few = jobs_none room
files_follow rule d zero (file ∷ files) all few = absurd (omega arith)
files_follow rule d (suc room) (file ∷ files) all few =
    let text = ruled_text rule file.bytes in
    let more = texts_of rule files in
    job_follows d (lines_behind d text more) 63 room file.job (lines_in text) _ (text_continued d text more)
    (ruled_jobs rule file (All-head (IsOneJob rule) file files all))
    ∙ ap (jobs_after (moved d file.job)) (files_follow rule (d + line_feeds (text_of rule file.bytes)) room files
    (All-tail (IsOneJob rule) file files all) (omega arith))

-- ---- the batch

no_job_line : (ws : List (List ℕ)) → is_second_rule (heading_of ws) ≡ true → job_line_of ws ≡ None
no_job_line ws is = grind arith

-- lines of jobs give no second rule
plain_rule : (room number : ℕ) (ts : List (List ℕ)) (jobs : List JobText)
    → jobs_in (suc room) (plain_lines number ts) ≡ Ok jobs
    → batch_in (suc room) (plain_lines number ts) ≡ Ok (First, jobs)
unfolding batch_in jobs_in lines_behind_blanks plain_lines
plain_rule room number [] jobs h = grind arith
plain_rule room number (t ∷ ts) jobs h =
    grind (arith, no_job_line (batch_words t), plain_rule room (number + 1) ts jobs)

second_rule : (more : List ℕ) → batch_in MOST_JOBS (plain_lines 1 (lines (rule_line Second ++ more)))
    ≡ under Second (jobs_in MOST_JOBS (plain_lines 2 (lines more)))
unfolding batch_in plain_lines lines lines_behind_blanks words_of_line
second_rule more = refl

pub joined_jobs : JoinedJobs
unfolding jobs_of
joined_jobs First files all few fits =
    rw (fitting_lines _ _ fits) (plain_rule 63 1 (lines (texts_of First files)) _
    (files_follow First 0 MOST_JOBS files all few))
joined_jobs Second files all few fits =
    rw (fitting_lines _ _ fits, second_rule, files_follow Second 1 MOST_JOBS files all few) refl
