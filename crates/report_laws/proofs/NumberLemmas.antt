-- The lines of the jobs of a batch count from 1.
use Rattle.std.proofs.Common.{◌≡◌, ◌≤◌, ◌+◌, ◌-◌, ℕ, zero, suc, Bool, List, [], ◌∷◌, subst, arith}
use Rattle.std.proofs.Common.{Option, Some, None, Result, Ok, Err, length}
use Rattle.std.specs.Prelude.{if◌then◌else◌}
use Rattle.vcode_base.specs.declared.rule.Rule.{Rule}
use Rattle.batch_reader.specs.Batches.{JobAndRest, JobText, PartText, Refusal, RuledJobs, batch_at, batch_in}
use Rattle.batch_reader.specs.Batches.{job_from_code, job_from_signatures}
use Rattle.batch_reader.specs.Batches.{jobs_after, jobs_in, jobs_of, lines_behind_blanks, no_job, one_job, part_at_end}
use Rattle.batch_reader.specs.Batches.{part_in, under, whole_job}
use Rattle.batch_reader.specs.Blocks.{Block, block_of, is_code}
use Rattle.batch_reader.specs.Chains.{result_and_then}
use Rattle.batch_reader.specs.Headings.{BatchLine, is_blank}
use Rattle.batch_reader.specs.Headings.{numbered_lines}
use Rattle.batch_reader.specs.JobLines.{JobLine}
use Rattle.report_laws.specs.Laws.{IsNumbered}

-- ---- lines

abbrev LinesLate : List BatchLine → Type 0
LinesLate [] = Unit {0}
LinesLate (l ∷ ls) = (1 ≤ l.number) × LinesLate ls

lines_if : (b : Bool) (ls ks : List BatchLine) → LinesLate ls → LinesLate ks → LinesLate (if b then ls else ks)
lines_if b ls ks h1 h2 = grind arith

past_one : (m : ℕ) → 1 ≤ m + 1
past_one m = omega arith

numbered_late : (number left : ℕ) (ts : List (List ℕ)) → 1 ≤ number → LinesLate (numbered_lines number left ts)
unfolding numbered_lines
numbered_late number left [] h = tt
numbered_late number left (t ∷ ts) h =
    grind (arith, lines_if, past_one, numbered_late (number + 1) (left - length t) ts (past_one number))

behind_late : (ls : List BatchLine) → LinesLate ls → LinesLate (lines_behind_blanks ls)
unfolding lines_behind_blanks
behind_late [] h = tt
behind_late (l ∷ ls) h = lines_if (is_blank l.heading) (lines_behind_blanks ls) (l ∷ ls) (behind_late ls h.1) h

-- ---- blocks

abbrev TakenBy : {A B : Type 0} → (A → B) → Type 0
TakenBy {A} f = A

-- what a line is by itself
abbrev Heading : Type 0
Heading = TakenBy is_code

abbrev EndLate : Option BatchLine → Type 0
EndLate None = Unit {0}
EndLate (Some l) = 1 ≤ l.number

abbrev BlockLate : Block → Type 0
BlockLate b = EndLate b.end × LinesLate b.rest

block_if : (b : Bool) (x y : Block) → BlockLate x → BlockLate y → BlockLate (if b then x else y)
block_if b x y h1 h2 = grind arith

block_late : (ends : Heading → Bool) (ls : List BatchLine) → LinesLate ls → BlockLate (block_of ends ls)
unfolding block_of
block_late ends [] h = grind arith
block_late ends (l ∷ ls) h = grind (arith, block_if, block_late ends ls h.1)

-- ---- what is found holds this

abbrev Finds : {A : Type 0} → (A → Type 0) → Result A Refusal → Type 0
Finds P (Ok x) = P x
Finds P (Err refusal) = Unit {0}

chain : {A B : Type 0} (P : A → Type 0) (Q : B → Type 0) (r : Result A Refusal) (f : A → Result B Refusal) → Finds P r
    → ((x : A) → P x → Finds Q (f x)) → Finds Q (result_and_then r f)
chain P Q r f h1 h2 = grind arith

finds_if : {A : Type 0} (P : A → Type 0) (b : Bool) (x y : Result A Refusal) → Finds P x → Finds P y
    → Finds P (if b then x else y)
finds_if P b x y h1 h2 = grind arith

abbrev Any : JobLine → Type 0
Any head = Unit {0}

any : (r : Result JobLine Refusal) → Finds Any r
any r = grind arith

abbrev PartLate : PartText → Type 0
PartLate part = (1 ≤ part.1.0) × LinesLate part.1.1

part_end_late : (closes : Heading → Bool) (job : ℕ) (text : List ℕ) (ls : List BatchLine) (end : Option BatchLine)
    → EndLate end → LinesLate ls → Finds PartLate (part_at_end closes job text ls end)
part_end_late closes job text ls end h1 h2 = grind (arith, finds_if, past_one)

part_late : (closes : Heading → Bool) (job : ℕ) (b : Block) → BlockLate b → Finds PartLate (part_in closes job b)
part_late closes job b h = part_end_late closes job b.text b.rest b.end h.0 h.1

-- ---- a job

abbrev JobLate : JobAndRest → Type 0
JobLate found = IsNumbered found.0 × LinesLate found.1

code_late : (job : JobText) (ls : List BatchLine) → IsNumbered job → LinesLate ls → Finds JobLate (job_from_code job ls)
unfolding job_from_code
code_late job ls h1 h2 = grind (arith, chain, part_late, block_late)

signatures_late : (job : JobText) (ls : List BatchLine) → IsNumbered job → LinesLate ls
    → Finds JobLate (job_from_signatures job ls)
unfolding job_from_signatures
signatures_late job ls h1 h2 = grind (arith, chain, part_late, block_late, code_late)

whole_late : (head : JobLine) (job : ℕ) (ls : List BatchLine) → 1 ≤ job → LinesLate ls
    → Finds JobLate (whole_job head job ls)
unfolding whole_job
whole_late head job ls h1 h2 = grind (arith, finds_if, signatures_late, past_one)

-- ---- a batch

abbrev AreNumbered : List JobText → Type 0
AreNumbered [] = Unit {0}
AreNumbered (job ∷ jobs) = IsNumbered job × AreNumbered jobs

none_late : (ls : List BatchLine) → Finds AreNumbered (no_job ls)
none_late ls = grind (arith, chain, any)

after_late : (job : JobText) (r : Result (List JobText) Refusal) → IsNumbered job → Finds AreNumbered r
    → Finds AreNumbered (jobs_after job r)
after_late job r h1 h2 = grind arith

module _ (later : List BatchLine → Result (List JobText) Refusal)
    (numbers : (ls : List BatchLine) → LinesLate ls → Finds AreNumbered (later ls)) where
  one_late : (ls : List BatchLine) → LinesLate ls → Finds AreNumbered (one_job later ls)
  one_late ls h1 = grind (arith, chain, any, whole_late, after_late)

jobs_late : (room : ℕ) (ls : List BatchLine) → LinesLate ls → Finds AreNumbered (jobs_in room ls)
unfolding jobs_in
jobs_late zero ls h = none_late (lines_behind_blanks ls)
jobs_late (suc room) ls h = one_late (jobs_in room) (jobs_late room) (lines_behind_blanks ls) (behind_late ls h)

abbrev RuledLate : RuledJobs → Type 0
RuledLate ruled = AreNumbered ruled.1

under_late : (rule : Rule) (r : Result (List JobText) Refusal) → Finds AreNumbered r → Finds RuledLate (under rule r)
under_late rule r h1 = grind arith

at_late : (room : ℕ) (ls : List BatchLine) → LinesLate ls → Finds RuledLate (batch_at room ls)
at_late room ls h1 = grind (arith, finds_if, under_late, jobs_late)

batch_late : (room : ℕ) (ls : List BatchLine) → LinesLate ls → Finds RuledLate (batch_in room ls)
unfolding batch_in
batch_late room ls h = at_late room (lines_behind_blanks ls) (behind_late ls h)

all_late : (input : List ℕ) → Finds RuledLate (jobs_of input)
unfolding jobs_of
all_late input = grind (arith, batch_late, numbered_late, past_one)

abbrev ruled_jobs : Rule → List JobText → Result RuledJobs Refusal
ruled_jobs rule jobs = Ok (rule, jobs)

pub one_numbered : (input : List ℕ) (rule : Rule) (job : JobText) → jobs_of input ≡ ruled_jobs rule (job ∷ [])
    → IsNumbered job
one_numbered input rule job e = (subst (λ (r : Result RuledJobs Refusal). Finds RuledLate r) e (all_late input)).0
