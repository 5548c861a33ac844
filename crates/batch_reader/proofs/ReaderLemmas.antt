-- A batch between two lines.
use Rattle.std.proofs.Common.{ap, ◌≡◌, ℕ, ◌≤◌, true, false, List, [], ◌∷◌, ◌++◌, length, Result, Ok, Err, refl, ◌∙◌}
use Rattle.std.proofs.Common.{arith, rules, append_assoc, length-append, zero, suc, ◌+◌, ◌-◌}
use Rattle.std.proofs.lemmas.List.{append-nil}
use Rattle.vcode_base.specs.declared.limits.TheConstants.{MOST_JOBS, MOST_BATCH_BYTES}
use Rattle.vcode_base.specs.declared.rule.Rule.{Rule}
use Rattle.vcode_base.specs.declared.rule.Rule.TheVariants.{First}
use Rattle.batch_reader.specs.declared.entry.Batch.{Batch}
use Rattle.batch_reader.specs.declared.entry.Batch.TheVariants.{Refused as BatchRefused, Jobs}
use Rattle.batch_reader.specs.declared.fault.BatchFault.TheVariants.{UnfinishedJob, TooLarge}
use Rattle.batch_reader.specs.declared.stage.StageStep.TheVariants.{To, Ends, Begins}
use Rattle.batch_reader.specs.Batches.{JobText, Refusal, RuledJobs, batch_in, jobs_after, jobs_in, job_from_code}
use Rattle.batch_reader.specs.Batches.{job_from_signatures, lines_behind_blanks, under, whole_job}
use Rattle.batch_reader.specs.Blocks.{block_of}
use Rattle.batch_reader.specs.Fates.{JobEntry, IsEntry, AreEntries}
use Rattle.batch_reader.specs.Feeds.{AnswersLines, ByLines, IsOutside, Keeps, LinesState, RefusesLongLine, Stands}
use Rattle.batch_reader.specs.Feeds.{is_settled}
use Rattle.batch_reader.specs.declared.heading.Heading.{Heading}
use Rattle.batch_reader.specs.declared.heading.Heading.TheVariants.{Blank}
use Rattle.batch_reader.specs.Headings.{BatchLine, heading_of, line_of, line_past_limit, numbered_lines}
use Rattle.batch_reader.specs.Lines.{batch_words, lines}
use Rattle.batch_reader.specs.Standings.{BatchStanding, Between, Ended, Refused, HasRoom, JobStage, JobStep, StageShows}
use Rattle.batch_reader.specs.Standings.{ShowsStep, Turns, jobs_behind, jobs_from, rule_by, InCode, CodePart, StageFits}
use Rattle.batch_reader.specs.Standings.{with_code}
use Rattle.batch_reader.proofs.StepLemmas.{past_limit, turns_at_blank, turns_at_first_blank, code_goes_on}
use Rattle.batch_reader.specs.declared.head.JobHeader.{JobHeader}
use Rattle.batch_reader.specs.Runs.{AreCodeLines, GoesOn, IsCodeLine, TakesCode}
use Rattle.batch_reader.proofs.LineLemmas.{lines_of_whole, numbered_next}
use Rattle.batch_reader.specs.declared.stage.Stage.TheVariants as stage

pub entries_with : (region : ℕ) (jobs : List JobText) (entries : List JobEntry) (job : JobText) (entry : JobEntry)
    → AreEntries region jobs entries → IsEntry region job entry
    → AreEntries region (jobs ++ job ∷ []) (entries ++ entry ∷ [])
entries_with region [] [] job entry all last = (last, tt)
entries_with region (j ∷ js) (e ∷ es) job entry all last = (all.0, entries_with region js es job entry all.1 last)
entries_with region _ _ job entry all last = absurd all

behind_ended : (rule : Rule) (jobs : List JobText) (job : JobText) (r : Result (List JobText) Refusal)
    → jobs_behind jobs (under rule (jobs_after job r)) ≡ jobs_behind (jobs ++ job ∷ []) (under rule r)
behind_ended rule jobs job r = grind (arith, append_assoc)

pub behind_none : (r : Result RuledJobs Refusal) → jobs_behind [] r ≡ r
behind_none r = search rules

-- ---- a line

-- the jobs, the rule, the stage and the entries
abbrev pub state_with : LinesState → ℕ → ℕ → Rule → JobStage → List JobEntry → LinesState
state_with s number left rule kept entries =
    record { region = s.region; number = number; left = left; rule = rule; stage = kept; entries = entries }

pub stand : {s : LinesState} {come : ByLines} (jobs : List JobText) (room : ℕ) (standing : BatchStanding)
    → AreEntries s.region jobs s.entries → StageShows s.region s.stage standing
    → HasRoom (length s.entries) room standing
    → ((ls : List BatchLine) → come ls ≡ jobs_behind jobs (jobs_from s.rule room standing ls)) → Stands s come
stand jobs room standing entries shown has comes = record {
  jobs = jobs;
  room = room;
  standing = standing;
  entries = entries;
  shown = shown;
  has_room = has;
  comes = comes;
}

behind_end : (s : LinesState) (come : ByLines) (l : BatchLine) (entry : JobEntry) (number left : ℕ) (rule : Rule)
    (room : ℕ) (next : BatchStanding) (h : Stands s come) → ShowsStep s.region (Ends entry) next
    → HasRoom (length s.entries) room next
    → ((ls : List BatchLine) → come (l ∷ ls) ≡ jobs_behind h.jobs (jobs_from rule room next ls))
    → Stands (state_with s number left rule stage.Between (s.entries ++ entry ∷ [])) (λ ls. come (l ∷ ls))
behind_end s come l entry number left rule room (Ended job) h shown has comes =
    stand (h.jobs ++ job ∷ []) room Between (entries_with s.region h.jobs s.entries job entry h.entries shown) tt
    (omega (arith, has, length-append s.entries (entry ∷ [])))
    (λ ls. comes ls ∙ behind_ended rule h.jobs job (jobs_in room ls))
behind_end s come l entry number left rule room _ h shown has comes = absurd shown

-- what follows a line
kept_by : (s : LinesState) (come : ByLines) (l : BatchLine) (step : JobStep) (number left : ℕ) (kept : JobStage)
    (entries : List JobEntry) (h : Stands s come)
    → Turns s.region (length s.entries) h.room h.standing l step → Keeps step s.entries entries kept
    → Stands (state_with s number left (rule_by step s.rule) kept entries) (λ ls. come (l ∷ ls))
kept_by s come l (Ends entry) number left kept entries h t keeps =
    rw (keeps.0, keeps.1) (behind_end s come l entry number left s.rule t.room_behind t.next h t.shown t.has_room
    (λ ls. h.comes (l ∷ ls) ∙ ap (jobs_behind h.jobs) (t.comes s.rule ls)))
kept_by s come l (To next) number left kept entries h t keeps =
    rw (keeps.0, keeps.1) (stand h.jobs t.room_behind t.next h.entries t.shown t.has_room
    (λ ls. h.comes (l ∷ ls) ∙ ap (jobs_behind h.jobs) (t.comes s.rule ls)))
kept_by s come l (Begins rule next) number left kept entries h t keeps =
    rw (keeps.0, keeps.1) (stand h.jobs t.room_behind t.next h.entries t.shown t.has_room
    (λ ls. h.comes (l ∷ ls) ∙ ap (jobs_behind h.jobs) (t.comes s.rule ls)))

-- the same, if what was handed to the step is known by equations
pub stands_taken : (s : LinesState) (come : ByLines) (text : List ℕ) (heading : Heading) (step : JobStep)
    (here number left ended : ℕ) (rule : Rule) (kept : JobStage) (entries : List JobEntry)
    → here ≡ s.number → rule ≡ rule_by step s.rule → ended ≡ length s.entries → heading ≡ heading_of (batch_words text)
    → ((room : ℕ) (standing : BatchStanding) → StageShows s.region s.stage standing → HasRoom ended room standing
    → Turns s.region ended room standing (record {
      number = here;
      text = text;
      heading = heading;
      is_past = false;
    }) step)
    → Keeps step s.entries entries kept → Stands s come
    → Stands (state_with s number left rule kept entries) (λ ls. come (line_of here text ∷ ls))
stands_taken s come text heading step here number left ended rule kept entries same same_rule same_count same_heading
    turns keeps h =
    rw same_rule (kept_by s come (line_of here text) step number left kept entries h
    (rw (← same_count, ← same_heading) (turns h.room h.standing h.shown (rw same_count h.has_room))) keeps)

-- a blank line before the first job or between jobs changes nothing
turns_outside : (region ended : ℕ) (kept : JobStage) (l : BatchLine) → IsOutside kept → l.heading ≡ Blank
    → (room : ℕ) (standing : BatchStanding) → StageShows region kept standing → HasRoom ended room standing
    → Turns region ended room standing l (To kept)
turns_outside region ended kept l outside blank room standing shown has =
    grind (arith, turns_at_blank, turns_at_first_blank)

-- after such a line
pub stands_behind_blank : (s : LinesState) (come : ByLines) (text : List ℕ) (heading : Heading) (number left : ℕ)
    → IsOutside s.stage → heading ≡ heading_of (batch_words text) → heading ≡ Blank → Stands s come
    → Stands (state_with s number left s.rule s.stage s.entries) (λ ls. come (line_of s.number text ∷ ls))
stands_behind_blank s come text heading number left outside same blank h =
    kept_by s come (line_of s.number text) (To s.stage) number left s.stage s.entries h
    (turns_outside s.region (length s.entries) s.stage (line_of s.number text) outside (cc) h.room h.standing h.shown
    h.has_room) (refl, refl)

-- ---- the line past the limit

pub few_ended : (ended room : ℕ) (standing : BatchStanding) → HasRoom ended room standing → ended ≤ MOST_JOBS
few_ended ended room standing has = search rules

refused_stands : (s new : LinesState) (come : ByLines) (refusal : Refusal) → new.region ≡ s.region
    → new.entries ≡ s.entries → Stands s come → StageShows new.region new.stage (Refused refusal)
    → Stands new (λ ls. Err refusal)
refused_stands s new come refusal r e h shown =
    stand h.jobs 0 (Refused refusal) (rw (r, e) h.entries) shown
    (rw e (few_ended (length s.entries) h.room h.standing h.has_room)) (λ ls. refl)

-- a long line refuses
pub long_line_stands : (s new : LinesState) (come : ByLines) → new.stage ≡ stage.Refused s.number TooLarge
    → new.region ≡ s.region → new.entries ≡ s.entries → is_settled s.stage ≡ false → Stands s come
    → RefusesLongLine s new come
long_line_stands s new come same r e isnt h = record {
  refusal = (TooLarge, s.number);
  stands = refused_stands s new come (TooLarge, s.number) r e h (rw same refl);
  comes = λ text. h.comes _ ∙ rw (past_limit s.region s.rule h.room s.stage h.standing s.number text isnt h.shown) refl;
}

-- a stage that no line changes is that of a refusal
pub settled_stands : (region : ℕ) (kept : JobStage) (standing : BatchStanding) → is_settled kept ≡ true
    → StageShows region kept standing → (refusal : Refusal) × (standing ≡ Refused refusal)
settled_stands region kept (Refused refusal) is shown = (refusal, refl)
settled_stands region kept standing is shown = absurd (grind arith)

pub settled_refuses : (s : LinesState) (come : ByLines) → is_settled s.stage ≡ true → Stands s come
    → RefusesLongLine s s come
settled_refuses s come is h =
    let r = settled_stands s.region s.stage h.standing is h.shown in
    record {
      refusal = r.0;
      stands = refused_stands s s come r.0 refl refl h (rw r.1 at h.shown);
      comes = λ text. grind (arith, h.comes (line_past_limit s.number text ∷ []), r.1);
    }

-- ---- if no line follows

-- what is answered at the end of the lines
abbrev pub answer_at : LinesState → JobStage → Batch (List JobEntry)
answer_at s stage.Fresh = Jobs First s.entries
answer_at s (stage.Headed kept) = BatchRefused kept.line UnfinishedJob
answer_at s (stage.Signatures kept part) = BatchRefused kept.line UnfinishedJob
answer_at s (stage.Code kept part) = BatchRefused kept.line UnfinishedJob
answer_at s (stage.Refused line fault) = BatchRefused line fault
answer_at s _ = Jobs s.rule s.entries

none_between : (room : ℕ) → jobs_in room [] ≡ Ok []
unfolding jobs_in lines_behind_blanks
none_between room = search rules

pub answers_end : (s : LinesState) (come : ByLines) (kept : JobStage) → s.stage ≡ kept → Stands s come
    → AnswersLines s.region (answer_at s kept) (come [])
unfolding batch_in lines_behind_blanks whole_job job_from_signatures job_from_code block_of
answers_end s come kept same h = grind (arith, append-nil, none_between, h.comes [])

pub few_at_end : (s : LinesState) (come : ByLines) → Stands s come → length s.entries ≤ MOST_JOBS
few_at_end s come h = few_ended (length s.entries) h.room h.standing h.has_room

-- ---- lines of code that are taken at once

line_comes : (rule : Rule) (room : ℕ) (job : JobText) (number left next behind : ℕ) (line more : List ℕ)
    → IsCodeLine line → next ≡ number + 1 → behind + length line ≡ left
    → jobs_from rule room (InCode job) (numbered_lines number left (lines (line ++ more)))
    ≡ jobs_from rule room (InCode (with_code job line)) (numbered_lines next behind (lines more))
line_comes rule room job number left next behind line more h n b =
    grind (arith, lines_of_whole, numbered_next, code_goes_on)

lines_come : (n : ℕ) (text : List ℕ) (rule : Rule) (room : ℕ) (job : JobText) (number left next behind : ℕ)
    (more : List ℕ) → AreCodeLines n text → next ≡ number + n → behind + length text ≡ left
    → jobs_from rule room (InCode job) (numbered_lines number left (lines (text ++ more)))
    ≡ jobs_from rule room (InCode (with_code job text)) (numbered_lines next behind (lines more))
unfolding AreCodeLines
lines_come zero text rule room job number left next behind more h n b = grind (arith, append-nil)
lines_come (suc n) text rule room job number left next behind more h e b =
    let sum : behind + length h.1 + length h.0 ≡ left = omega (arith, b, ap length h.2, length-append h.0 h.1) in
    grind (
      arith,
      append_assoc,
      lines_come n h.0 rule room job number left (number + n) (behind + length h.1)
          (h.1 ++ more) h.3 refl sum,
      line_comes rule room (with_code job h.0) (number + n) (behind + length h.1) next behind
          h.1 more h.4 (omega (arith, e)) refl,
    )

in_code : (region : ℕ) (kept : JobHeader (List ℕ)) (part : CodePart) (standing : BatchStanding)
    → StageShows region (stage.Code kept part) standing → (job : JobText) × (standing ≡ InCode job)
in_code region kept part (InCode job) shown = (job, refl)
in_code region kept part _ shown = absurd shown

abbrev state_behind : LinesState → ℕ → ℕ → JobStage → LinesState
state_behind s number left kept = record s { number = number; left = left; stage = kept }

pub code_taken : (s : LinesState) (come : ByLines) (text : List ℕ) (count number left : ℕ) (kept : JobStage)
    → AreCodeLines count text → GoesOn s.stage kept text → number ≡ s.number + count → left + length text ≡ s.left
    → Stands s come → TakesCode s (state_behind s number left kept) text come
code_taken s come text count number left kept are goes n l h =
    let code : StageShows s.region (stage.Code goes.kept goes.before) h.standing = rw goes.was at h.shown in
    let at = in_code s.region goes.kept goes.before h.standing code in
    let shown = rw at.1 at code in
    record {
      next = λ ls. jobs_behind h.jobs (jobs_from s.rule h.room (InCode (with_code at.0 text)) ls);
      stands = stand h.jobs h.room (InCode (with_code at.0 text)) h.entries
          (rw goes.is (shown.0, goes.shown s.region at.0 shown.1)) (rw at.1 at h.has_room) (λ ls. refl);
      comes = λ more. grind (arith, at.1, h.comes, lines_come);
    }

-- ---- how far a stage has come

-- how many bytes of a batch have come, when `left` are left
pub bytes_come : (left len left2 : ℕ) (stage : JobStage) → left ≤ MOST_BATCH_BYTES → left2 + len ≡ left →
    StageFits (MOST_BATCH_BYTES - left + len) stage → StageFits (MOST_BATCH_BYTES - left2) stage
bytes_come left len left2 stage most sum fits = search rules

-- a stage at another count of the same bytes
pub at_place : (n m : ℕ) (stage : JobStage) → n ≡ m → StageFits n stage → StageFits m stage
at_place n m stage e fits = search rules

pub ruleset of_long_line = (settled_refuses, long_line_stands)
