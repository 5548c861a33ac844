-- What a line leads to from each standing.
use Rattle.std.proofs.Common.{◌≡◌, ℕ, ◌+◌, ◌≤◌, ◌<◌, suc, zero, false, List, [], ◌∷◌, Err, refl, None, arith, rules}
use Rattle.std.proofs.Common.{append_assoc}
use Rattle.std.proofs.lemmas.List.{append-nil}
use Rattle.vcode_base.specs.declared.limits.TheConstants.{MOST_JOBS}
use Rattle.vcode_base.specs.declared.rule.Rule.{Rule}
use Rattle.vcode_base.specs.declared.rule.Rule.TheVariants.{First, Second}
use Rattle.batch_reader.specs.declared.heading.Heading.{Heading}
use Rattle.batch_reader.specs.declared.heading.Heading.TheVariants.{Blank, SecondRule, Signatures, Code, End}
use Rattle.batch_reader.specs.declared.fault.BatchFault.TheVariants.{BadJobLine, UnfinishedJob, TooLarge}
use Rattle.batch_reader.specs.declared.head.JobHeader.{JobHeader}
use Rattle.batch_reader.specs.declared.stage.StageStep.TheVariants.{To, Ends, Begins}
use Rattle.batch_reader.specs.Batches.{JobText, lines_behind_blanks, jobs_in, batch_in, job_from_code}
use Rattle.batch_reader.specs.Batches.{job_from_signatures, job_without_parts, whole_job}
use Rattle.batch_reader.specs.Blocks.{block_of, ends_signatures, is_end}
use Rattle.batch_reader.specs.Fates.{JobEntry, IsEntry}
use Rattle.batch_reader.specs.Feeds.{is_settled}
use Rattle.batch_reader.specs.Headings.{BatchLine, line_past_limit}
use Rattle.batch_reader.specs.JobLines.{JobLine, job_line_of}
use Rattle.batch_reader.specs.Lines.{batch_words}
use Rattle.batch_reader.specs.Standings.{BatchStanding, Fresh, Between, Headed, InSignatures, InCode, Ended, Refused}
use Rattle.batch_reader.specs.Standings.{HasRoom, JobStage, CodePart, SignaturesPart, ShowsCode, ShowsSignatures}
use Rattle.batch_reader.specs.Standings.{ShowsStep, Stays, JobStep, StageShows, SaysJob, Turns, jobs_from, rule_by}
use Rattle.batch_reader.specs.Standings.{with_signatures, with_code, with_code_line}
use Rattle.batch_reader.specs.declared.stage.Stage.TheVariants as stage

-- a line after which there are this standing and room for as many jobs
turn : {region ended room : ℕ} {standing : BatchStanding} {l : BatchLine} {s : JobStep} (behind : ℕ)
    (next : BatchStanding) → ShowsStep region s next → HasRoom ended behind next
    → ((rule : Rule) (ls : List BatchLine)
    → jobs_from rule room standing (l ∷ ls) ≡ jobs_from (rule_by s rule) behind next ls)
    → Turns region ended room standing l s
turn behind next shown has comes =
    record { room_behind = behind; next = next; shown = shown; has_room = has; comes = comes }

-- ---- between jobs

pub turns_at_blank : (region ended room : ℕ) (l : BatchLine) → l.heading ≡ Blank → HasRoom ended room Between
    → Turns region ended room Between l (To stage.Between)
unfolding jobs_in lines_behind_blanks
turns_at_blank region ended room l blank has = turn room Between tt has (λ rule ls. search rules)

pub turns_at_no_job : (region ended room : ℕ) (l : BatchLine) → l.is_past ≡ false → (l.heading ≡ Blank → ⊥)
    → job_line_of (batch_words l.text) ≡ None → HasRoom ended room Between
    → Turns region ended room Between l (To (stage.Refused l.number BadJobLine))
unfolding jobs_in lines_behind_blanks
turns_at_no_job region ended room l past other none has =
    turn 0 (Refused (BadJobLine, l.number)) refl (omega (arith, has)) (λ rule ls. search rules)

-- a JOB line after as many jobs as a batch may have
pub turns_at_last_job : (region ended room line : ℕ) (l : BatchLine) (head : JobLine) → HasRoom ended room Between
    → SaysJob l head line → MOST_JOBS ≤ ended
    → Turns region ended room Between l (To (stage.Refused line TooLarge))
unfolding jobs_in lines_behind_blanks
turns_at_last_job region ended room line l head has says full =
    turn 0 (Refused (TooLarge, line)) refl (omega (arith, has)) (λ rule ls. grind arith)

-- and after fewer
pub turns_at_job : (region ended room line : ℕ) (l : BatchLine) (head : JobLine) (s : JobStage)
    → HasRoom ended room Between → SaysJob l head line → ended < MOST_JOBS → StageShows region s (Headed head line)
    → Turns region ended room Between l (To s)
unfolding jobs_in lines_behind_blanks
turns_at_job region ended zero line l head s has says few shown = absurd (omega (arith, has))
turns_at_job region ended (suc room) line l head s has says few shown =
    turn room (Headed head line) shown (omega (arith, has)) (λ rule ls. grind arith)

-- ---- before the first line that isn't blank

pub turns_at_first_blank : (region ended room : ℕ) (l : BatchLine) → l.heading ≡ Blank → HasRoom ended room Fresh
    → Turns region ended room Fresh l (To stage.Fresh)
unfolding batch_in lines_behind_blanks
turns_at_first_blank region ended room l blank has = turn room Fresh tt has (λ rule ls. search rules)

pub turns_at_rule : (region ended room : ℕ) (l : BatchLine) → l.heading ≡ SecondRule → HasRoom ended room Fresh
    → Turns region ended room Fresh l (Begins Second stage.Between)
unfolding batch_in lines_behind_blanks
turns_at_rule region ended room l is has = turn room Between tt has (λ rule ls. search rules)

-- a line that is neither blank nor the rule line is as between jobs
pub turns_without_rule : (region ended room : ℕ) (l : BatchLine) (s : JobStage) → (l.heading ≡ Blank → ⊥)
    → (l.heading ≡ SecondRule → ⊥) → Turns region ended room Between l (To s)
    → Turns region ended room Fresh l (Begins First s)
unfolding batch_in lines_behind_blanks
turns_without_rule region ended room l s blank isnt t =
    turn t.room_behind t.next t.shown t.has_room (λ rule ls. grind (arith, t.comes First ls))

pub ruleset at_front = (turns_at_first_blank, turns_at_rule, turns_without_rule)

-- ---- after a JOB line

pub turns_at_signatures : (region ended room : ℕ) (head : JobLine) (job : ℕ) (l : BatchLine) (s : JobStage)
    → l.is_past ≡ false → l.heading ≡ Signatures → HasRoom ended room (Headed head job)
    → StageShows region s (InSignatures (job_without_parts head job (l.number + 1)))
    → Turns region ended room (Headed head job) l (To s)
unfolding whole_job
turns_at_signatures region ended room head job l s past is has shown =
    turn room (InSignatures (job_without_parts head job (l.number + 1))) shown has (λ rule ls. search rules)

pub turns_at_no_signatures : (region ended room : ℕ) (head : JobLine) (job : ℕ) (l : BatchLine) → l.is_past ≡ false
    → (l.heading ≡ Signatures → ⊥) → HasRoom ended room (Headed head job)
    → Turns region ended room (Headed head job) l (To (stage.Refused l.number BadJobLine))
unfolding whole_job
turns_at_no_signatures region ended room head job l past isnt has =
    turn 0 (Refused (BadJobLine, l.number)) refl (omega (arith, has)) (λ rule ls. search rules)

-- ---- among signatures

pub turns_in_signatures : (region ended room : ℕ) (job : JobText) (l : BatchLine) (s : JobStage) → l.is_past ≡ false
    → ends_signatures l.heading ≡ false → HasRoom ended room (InSignatures job)
    → StageShows region s (InSignatures (with_signatures job l.text))
    → Turns region ended room (InSignatures job) l (To s)
unfolding job_from_signatures block_of
turns_in_signatures region ended room job l s past isnt has shown =
    turn room (InSignatures (with_signatures job l.text)) shown has (λ rule ls. grind (arith, append_assoc))

pub turns_at_code : (region ended room : ℕ) (job : JobText) (l : BatchLine) (s : JobStage) → l.is_past ≡ false
    → l.heading ≡ Code → HasRoom ended room (InSignatures job)
    → StageShows region s (InCode (with_code_line job (l.number + 1)))
    → Turns region ended room (InSignatures job) l (To s)
unfolding job_from_signatures block_of
turns_at_code region ended room job l s past is has shown =
    turn room (InCode (with_code_line job (l.number + 1))) shown has (λ rule ls. grind (arith, append-nil))

pub turns_at_early_end : (region ended room line : ℕ) (job : JobText) (l : BatchLine) → l.is_past ≡ false
    → l.heading ≡ End → line ≡ job.line → HasRoom ended room (InSignatures job)
    → Turns region ended room (InSignatures job) l (To (stage.Refused line UnfinishedJob))
unfolding job_from_signatures block_of
turns_at_early_end region ended room line job l past is same has =
    turn 0 (Refused (UnfinishedJob, line)) refl (omega (arith, has)) (λ rule ls. grind arith)

pub ruleset in_signatures = (turns_in_signatures, turns_at_code, turns_at_early_end)

-- ---- among code

pub code_goes_on : (job : JobText) (l : BatchLine) (ls : List BatchLine) → l.is_past ≡ false → is_end l.heading ≡ false
    → job_from_code job (l ∷ ls) ≡ job_from_code (with_code job l.text) ls
unfolding job_from_code block_of
code_goes_on job l ls past isnt = grind (arith, append_assoc)

pub isnt_end : (h : Heading) → (h ≡ End → ⊥) → is_end h ≡ false
isnt_end h other = search rules

pub turns_in_code : (region ended room : ℕ) (job : JobText) (l : BatchLine) (s : JobStage) → l.is_past ≡ false
    → is_end l.heading ≡ false → HasRoom ended room (InCode job) → StageShows region s (InCode (with_code job l.text))
    → Turns region ended room (InCode job) l (To s)
turns_in_code region ended room job l s past isnt has shown =
    turn room (InCode (with_code job l.text)) shown has (λ rule ls. grind (arith, code_goes_on))

pub turns_at_end : (region ended room : ℕ) (job : JobText) (l : BatchLine) (entry : JobEntry) → l.is_past ≡ false
    → l.heading ≡ End → HasRoom ended room (InCode job) → IsEntry region job entry
    → Turns region ended room (InCode job) l (Ends entry)
unfolding job_from_code block_of
turns_at_end region ended room job l entry past is has shown =
    turn room (Ended job) shown has (λ rule ls. grind (arith, append-nil))

-- ---- past the limit

no_jobs_past : (room n : ℕ) (text : List ℕ) → jobs_in room (line_past_limit n text ∷ []) ≡ Err (TooLarge, n)
unfolding jobs_in lines_behind_blanks
no_jobs_past room n text = search rules

-- ---- by the stage

pub turns_of_code : (region ended : ℕ) (kept : JobHeader (List ℕ)) (part : CodePart) (l : BatchLine) (s : JobStep)
    → ((room : ℕ) (job : JobText) → StageShows region (stage.Code kept part) (InCode job)
    → HasRoom ended room (InCode job)
    → Turns region ended room (InCode job) l s)
    → (room : ℕ) (standing : BatchStanding) → StageShows region (stage.Code kept part) standing
    → HasRoom ended room standing
    → Turns region ended room standing l s
turns_of_code region ended kept part l s turns room (InCode job) shown has = turns room job shown has
turns_of_code region ended kept part l s turns room _ shown has = absurd shown

-- a line past the limit refuses what isn't refused
pub past_limit : (region : ℕ) (rule : Rule) (room : ℕ) (kept : JobStage) (standing : BatchStanding) (n : ℕ)
    (text : List ℕ) → is_settled kept ≡ false → StageShows region kept standing
    → jobs_from rule room standing (line_past_limit n text ∷ []) ≡ Err (TooLarge, n)
unfolding batch_in lines_behind_blanks whole_job job_from_signatures job_from_code block_of
past_limit region rule room kept standing n text isnt shown = grind (arith, no_jobs_past)

-- ---- in place

-- a line that stays among code or signatures, for any standing that the stage shows
pub stays_in_code : (kept : JobHeader (List ℕ)) (old new : CodePart) (was : JobStage) (l : BatchLine)
    → l.is_past ≡ false → was ≡ stage.Code kept old → Stays was l.heading
    → ((region : ℕ) (job : JobText) → ShowsCode region old job → ShowsCode region new (with_code job l.text))
    → (region ended room : ℕ) (standing : BatchStanding) → StageShows region was standing → HasRoom ended room standing
    → Turns region ended room standing l (To (stage.Code kept new))
stays_in_code kept old new was l past is stays goes region ended room standing shown has =
    grind (arith, turns_in_code)

pub stays_in_signatures : (kept : JobHeader (List ℕ)) (old new : SignaturesPart) (was : JobStage) (l : BatchLine)
    → l.is_past ≡ false → was ≡ stage.Signatures kept old → Stays was l.heading
    → ((region : ℕ) (job : JobText) → ShowsSignatures region old job
    → ShowsSignatures region new (with_signatures job l.text))
    → (region ended room : ℕ) (standing : BatchStanding) → StageShows region was standing → HasRoom ended room standing
    → Turns region ended room standing l (To (stage.Signatures kept new))
stays_in_signatures kept old new was l past is stays goes region ended room standing shown has =
    grind (arith, turns_in_signatures)
