-- Files of one job each, joined to a batch.
use Rattle.std.specs.Prelude.{◌≡◌, ℕ, ◌+◌, ◌==◌, if◌then◌else◌, List, [], ◌∷◌, ◌++◌, codes, Result, Ok}
use Rattle.vcode_base.specs.Lines.{is_line_feed, line_feeds}
use Rattle.vcode_base.specs.LineWords.{is_separator}
use Rattle.vcode_base.specs.declared.rule.Rule.{Rule}
use Rattle.vcode_base.specs.declared.rule.Rule.TheVariants.{First, Second}
use Rattle.batch_reader.specs.Batches.{JobText, jobs_of}

-- ---- what a batch takes of a file

-- a text with an LF after its last line
unfoldable pub with_last_feed : List ℕ → List ℕ
with_last_feed [] = []
with_last_feed (b ∷ []) = if b == 10 then b ∷ [] else b ∷ 10 ∷ []
with_last_feed (b ∷ c ∷ bs) = b ∷ with_last_feed (c ∷ bs)

-- a text with blanks for what comes before its first LF
unfoldable pub blank_to_feed : List ℕ → List ℕ
blank_to_feed [] = []
blank_to_feed (b ∷ bs) = if is_line_feed b then b ∷ bs else 32 ∷ blank_to_feed bs

-- a text whose first line that has words has none, and is as long as before
unfoldable pub without_first_words : List ℕ → List ℕ
without_first_words [] = []
without_first_words (b ∷ bs) = if is_separator b then b ∷ without_first_words bs else blank_to_feed (b ∷ bs)

-- a file of this rule without the words of its rule line
abbrev pub ruled_text : Rule → List ℕ → List ℕ
ruled_text First bytes = bytes
ruled_text Second bytes = without_first_words bytes

-- what stands in a batch of this rule for such a file: as many lines, each with its LF
abbrev pub text_of : Rule → List ℕ → List ℕ
text_of rule bytes = with_last_feed (ruled_text rule bytes)

-- ---- the batch

-- the line that gives a batch its rule
abbrev pub rule_line : Rule → List ℕ
rule_line First = []
rule_line Second = codes "BATCH 2\n"

-- a file and the job in it
pub record OneJob : Type 0 where
  pub bytes : List ℕ
  pub job : JobText

-- the file is a batch of this rule and of exactly this job
abbrev pub IsOneJob : Rule → OneJob → Type 0
IsOneJob rule file = jobs_of file.bytes ≡ Ok (rule, file.job ∷ [])

abbrev pub texts_of : Rule → List OneJob → List ℕ
texts_of rule [] = []
texts_of rule (file ∷ files) = text_of rule file.bytes ++ texts_of rule files

-- the batch of these files
abbrev pub joined : Rule → List OneJob → List ℕ
joined rule files = rule_line rule ++ texts_of rule files

-- ---- its jobs

-- the job, n lines further on
abbrev pub moved : ℕ → JobText → JobText
moved n job = record job {
  line = job.line + n;
  signatures_line = job.signatures_line + n;
  code_line = job.code_line + n;
}

-- the jobs of these files in order, if n lines are before the first file
abbrev pub jobs_behind_lines : Rule → ℕ → List OneJob → List JobText
jobs_behind_lines rule n [] = []
jobs_behind_lines rule n (file ∷ files) =
    moved n file.job ∷ jobs_behind_lines rule (n + line_feeds (text_of rule file.bytes)) files

-- the jobs of the batch of these files
abbrev pub joined_jobs : Rule → List OneJob → List JobText
joined_jobs rule files = jobs_behind_lines rule (line_feeds (rule_line rule)) files
