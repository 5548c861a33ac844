-- A batch that comes in pieces: what is kept of it, and which bytes have come.
use Rattle.std.specs.Prelude.{◌≡◌, ◌+◌, ◌-◌, ◌≤◌, ℕ, Bool, true, false, List, [], ◌∷◌, ◌++◌, length, Result, Ok, Err}
use Rattle.std.specs.Prelude.{refl}
use Rattle.std.specs.Coded.{Coded, code_by, coded_ℕ, coded×, coded_list}
use Rattle.vcode_base.specs.declared.limits.TheConstants.{MOST_BATCH_BYTES, MOST_JOBS}
use Rattle.vcode_base.specs.Lines.{is_line_feed}
use Rattle.vcode_base.specs.declared.rule.Rule.{Rule}
use Rattle.batch_reader.specs.declared.stage.Stage.TheVariants as stage
use Rattle.batch_reader.specs.declared.stage.StageStep.TheVariants.{To, Ends, Begins}
use Rattle.batch_reader.specs.declared.fault.BatchFault.{BatchFault}
use Rattle.batch_reader.specs.declared.entry.Batch.{Batch}
use Rattle.batch_reader.specs.declared.entry.Batch.TheVariants.{Refused, Jobs}
use Rattle.batch_reader.specs.Batches.{JobText, Refusal, RuledJobs, jobs_of}
use Rattle.batch_reader.specs.Fates.{JobEntry, AreEntries}
use Rattle.batch_reader.specs.Headings.{BatchLine, line_past_limit, numbered_lines}
use Rattle.batch_reader.specs.Lines.{lines}
use Rattle.batch_reader.specs.Standings.{JobStage, JobStep, BatchStanding, StageShows, HasRoom, StageFits, jobs_behind}
use Rattle.batch_reader.specs.Standings.{jobs_from}

-- a batch between two lines: the number of the next, how many bytes there may be from there on, the rule of the batch
-- (which counts once a line that isn't blank has come), the standing of the batch, and the jobs that have ended
pub record LinesState : Type 0 where
  pub region : ℕ
  pub number : ℕ
  pub left : ℕ
  pub rule : Rule
  pub stage : JobStage
  pub entries : List JobEntry

-- the bytes of the open line, and the standing of the batch before it
pub record FeedState : Type 0 where
  pub held : List ℕ
  pub lines : LinesState

abbrev pub lines_code : Coded Rule → Coded JobStage → Coded JobEntry → Coded LinesState
lines_code rule stage entry =
    code_by (ℕ × (ℕ × (ℕ × (Rule × (JobStage × List JobEntry)))))
    (coded× coded_ℕ (coded× coded_ℕ (coded× coded_ℕ (coded× rule (coded× stage (coded_list entry))))))
    (λ s. (s.region, (s.number, (s.left, (s.rule, (s.stage, s.entries))))))
    (λ t. record {
      region = t.0;
      number = t.1.0;
      left = t.1.1.0;
      rule = t.1.1.1.0;
      stage = t.1.1.1.1.0;
      entries = t.1.1.1.1.1;
    })
    (λ _. refl)

abbrev pub feed_code : Coded LinesState → Coded FeedState
feed_code lines =
    code_by (List ℕ × LinesState) (coded× (coded_list coded_ℕ) lines) (λ f. (f.held, f.lines))
    (λ t. record { held = t.0; lines = t.1 }) (λ _. refl)

-- the number of the line, the bytes and the stage are within their limits
pub record AreLinesWithin (next left : ℕ) (kept : JobStage) : Type 0 where
  pub number : next + left ≤ MOST_BATCH_BYTES + 1
  pub bytes : left ≤ MOST_BATCH_BYTES
  pub stage : StageFits (MOST_BATCH_BYTES - left) kept

abbrev pub HoldsNoLineFeed : List ℕ → Type 0
HoldsNoLineFeed [] = Unit {0}
HoldsNoLineFeed (b ∷ bs) = (is_line_feed b ≡ false) × HoldsNoLineFeed bs

-- the open line has no LF, and is within the limit of a batch
pub record IsOpenLine (line : List ℕ) (left : ℕ) : Type 0 where
  pub feed : HoldsNoLineFeed line
  pub within : length line ≤ left

-- what is to come of a batch, by the lines that are still to come
abbrev pub ByLines : Type 0
ByLines = List BatchLine → Result RuledJobs Refusal

-- what is to come is that of a standing, which the stage shows, after the jobs that have ended
pub record Stands (s : LinesState) (come : ByLines) : Type 0 where
  pub jobs : List JobText
  pub room : ℕ
  pub standing : BatchStanding
  pub entries : AreEntries s.region jobs s.entries
  pub shown : StageShows s.region s.stage standing
  pub has_room : HasRoom (length s.entries) room standing
  pub comes : (ls : List BatchLine) → come ls ≡ jobs_behind jobs (jobs_from s.rule room standing ls)

-- a line that holds the first byte past the limit refuses the batch, whatever its text, unless it is refused already
pub record RefusesLongLine (old new : LinesState) (come : ByLines) : Type 0 where
  pub refusal : Refusal
  pub stands : Stands new (λ ls. Err refusal)
  pub comes : (text : List ℕ) → come (line_past_limit old.number text ∷ []) ≡ Err refusal

-- ---- bytes

-- its only LF is its last byte
abbrev pub IsWholeLine : List ℕ → Type 0
IsWholeLine line = (front : List ℕ) × HoldsNoLineFeed front × (line ≡ front ++ 10 ∷ [])

-- These bytes have come, the open line after whole ones: whatever follows the whole lines, the batch is what the
-- stage makes of its lines. A feed that has failed shows no bytes.
pub record HasCome (f : FeedState) (text : List ℕ) : Type 0 where
  pub whole : List ℕ
  pub come : ByLines
  pub bytes : text ≡ whole ++ f.held
  pub batch : (rest : List ℕ) → jobs_of (whole ++ rest) ≡ come (numbered_lines f.lines.number f.lines.left (lines rest))
  pub stands : Stands f.lines come

-- the batch is refused
abbrev pub IsRefused : LinesState → Type 0
IsRefused s = (line : ℕ) × (fault : BatchFault) × (s.stage ≡ stage.Refused line fault)

-- memory was refused
abbrev pub HasFailed : LinesState → Type 0
HasFailed s = s.stage ≡ stage.Failed

-- ---- steps

-- a step is kept: a job that ends is added after the others
abbrev pub Keeps : JobStep → List JobEntry → List JobEntry → JobStage → Type 0
Keeps (To next) old new behind = (behind ≡ next) × (new ≡ old)
Keeps (Ends entry) old new behind = (behind ≡ stage.Between) × (new ≡ old ++ entry ∷ [])
Keeps (Begins rule next) old new behind = (behind ≡ next) × (new ≡ old)

-- a stage before the first job or between jobs
abbrev pub IsOutside : JobStage → Type 0
IsOutside stage.Fresh = Unit {0}
IsOutside stage.Between = Unit {0}
IsOutside _ = ⊥

-- a stage that no line changes
abbrev pub is_settled : JobStage → Bool
is_settled (stage.Refused line fault) = true
is_settled stage.Failed = true
is_settled _ = false

-- ---- answers

-- these bytes are a batch of whole lines, the last of which may lack its LF
pub record HasEnded (s : LinesState) (text : List ℕ) : Type 0 where
  pub come : ByLines
  pub batch : jobs_of text ≡ come []
  pub stands : Stands s come

-- no more jobs than a batch may have
abbrev pub HasFewJobs : Batch (List JobEntry) → Type 0
HasFewJobs (Refused line fault) = Unit {0}
HasFewJobs (Jobs rule entries) = length entries ≤ MOST_JOBS

-- what lines give over a region
abbrev pub AnswersLines : ℕ → Batch (List JobEntry) → Result RuledJobs Refusal → Type 0
AnswersLines region (Refused line fault) come = come ≡ Err (fault, line)
AnswersLines region (Jobs rule entries) come =
    (jobs : List JobText) × (come ≡ Ok (rule, jobs)) × AreEntries region jobs entries

-- the front of a piece has come, up to this rest
abbrev pub HasComeIn : FeedState → FeedState → List ℕ → List ℕ → Type 0
HasComeIn old new piece rest =
    (front : List ℕ) × (piece ≡ front ++ rest) × ((before : List ℕ) → HasCome old before
    → HasCome new (before ++ front))

-- nothing comes before the first line
pub record IsFirstLine (size : ℕ) (s : LinesState) : Type 0 where
  pub region : s.region ≡ size
  pub number : s.number ≡ 1
  pub left : s.left ≡ MOST_BATCH_BYTES
  pub stage : s.stage ≡ stage.Fresh
  pub entries : s.entries ≡ []
