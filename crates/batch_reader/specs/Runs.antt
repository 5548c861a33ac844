-- Lines of a job's code that are taken at once.
use Rattle.std.specs.Prelude.{◌≡◌, ◌≤◌, ℕ, zero, suc, true, false, List, [], ◌∷◌, ◌++◌, length}
use Rattle.vcode_base.specs.LineWords.{is_separator}
use Rattle.vcode_base.specs.Lines.{is_line_feed, line_feeds}
use Rattle.batch_reader.specs.declared.head.JobHeader.{JobHeader}
use Rattle.batch_reader.specs.declared.stage.Stage.TheVariants as stage
use Rattle.batch_reader.specs.Batches.{JobText}
use Rattle.batch_reader.specs.Blocks.{is_end}
use Rattle.batch_reader.specs.Feeds.{ByLines, IsWholeLine, LinesState, Stands}
use Rattle.batch_reader.specs.Headings.{heading_of, numbered_lines}
use Rattle.batch_reader.specs.Lines.{batch_words, lines}
use Rattle.batch_reader.specs.Standings.{CodePart, JobStage, ShowsCode, with_code}

-- a line with its LF that isn't END
pub record IsCodeLine (line : List ℕ) : Type 0 where
  pub whole : IsWholeLine line
  pub code : is_end (heading_of (batch_words line)) ≡ false

-- a text of that many such lines
unfoldable pub AreCodeLines : ℕ → List ℕ → Type 0
AreCodeLines zero text = text ≡ []
AreCodeLines (suc n) text =
    (front : List ℕ) × (line : List ℕ) × (text ≡ front ++ line) × AreCodeLines n front × IsCodeLine line

-- a text of such lines, each of which has one LF
abbrev pub IsCodeText : List ℕ → Type 0
IsCodeText text = AreCodeLines (line_feeds text) text

-- the rest of a text after lines of code, of which there is one at least
pub record IsAfterCode (text rest : List ℕ) : Type 0 where
  pub lines : List ℕ
  pub code : IsCodeText lines
  pub some : 1 ≤ length lines
  pub parts : text ≡ lines ++ rest

-- lines that an LF ends: their last byte is one
abbrev pub AreWholeLines : List ℕ → Type 0
AreWholeLines [] = Unit {0}
AreWholeLines (b ∷ []) = is_line_feed b ≡ true
AreWholeLines (b ∷ c ∷ bs) = AreWholeLines (c ∷ bs)

-- the D at which a text is parted is that of END: EN comes before it, and a separator after it
pub record IsOfEnd (before from : List ℕ) : Type 0 where
  pub front : List ℕ
  pub next : ℕ
  pub rest : List ℕ
  pub begins : before ≡ front ++ 69 ∷ 78 ∷ []
  pub goes_on : from ≡ 68 ∷ next ∷ rest
  pub ends : is_separator next ≡ true

-- a stage among the lines of a job's code
abbrev pub IsInCode : JobStage → Type 0
IsInCode (stage.Code kept part) = Unit {0}
IsInCode _ = ⊥

-- the stage stays in the code of the job, of which this text has come
pub record GoesOn (old new : JobStage) (text : List ℕ) : Type 0 where
  pub kept : JobHeader (List ℕ)
  pub before : CodePart
  pub behind : CodePart
  pub was : old ≡ stage.Code kept before
  pub is : new ≡ stage.Code kept behind
  pub shown : (region : ℕ) (job : JobText) → ShowsCode region before job → ShowsCode region behind (with_code job text)

-- a text was taken: whatever follows it, the batch is what the new state makes of the lines after it
pub record TakesCode (old new : LinesState) (text : List ℕ) (come : ByLines) : Type 0 where
  pub next : ByLines
  pub stands : Stands new next
  pub comes : (more : List ℕ) → come (numbered_lines old.number old.left (lines (text ++ more)))
      ≡ next (numbered_lines new.number new.left (lines more))
