-- Lines that are those of a file further on in a batch, with the lines of other files after them.
use Rattle.std.proofs.Common.{◌≡◌, ℕ, suc, ◌+◌, ◌<◌, Bool, true, false, List, [], ◌∷◌, length, Option, Some, None}
use Rattle.std.proofs.Common.{Result, Ok, Err, refl, ap, arith, inl, inr, ◌⊎◌}
use Rattle.std.specs.Prelude.{◌||◌}
use Rattle.batch_reader.specs.Batches.{JobAndRest, JobText, PartText, Refusal, head_of, job_from_code}
use Rattle.batch_reader.specs.Batches.{job_from_signatures, job_without_parts, jobs_after, jobs_in, lines_behind_blanks}
use Rattle.batch_reader.specs.Batches.{part_at_end, part_in, whole_job, one_job as one_job_in}
use Rattle.batch_reader.specs.Blocks.{Block, block_of, ends_signatures, is_code, is_end}
use Rattle.batch_reader.specs.Chains.{result_and_then}
use Rattle.batch_reader.specs.Headings.{BatchLine, is_blank, is_signatures}
use Rattle.batch_reader.specs.JobLines.{JobLine}
use Rattle.batch_reader.specs.Lines.{batch_words}
use Rattle.batch_packer.specs.Joins.{moved}

-- ---- lines

-- a line past the limit, which isn't blank
pub record IsPast (l : BatchLine) : Type 0 where
  pub past : l.is_past ≡ true
  pub other : is_blank l.heading ≡ false

-- the same words, d lines further on
pub record IsMoved (d : ℕ) (old new : BatchLine) : Type 0 where
  pub number : new.number ≡ old.number + d
  pub heading : new.heading ≡ old.heading
  pub words : batch_words new.text ≡ batch_words old.text
  pub within : new.is_past ≡ false

-- the lines of a file, d lines further on, of which only the last may have another end, and more after them
abbrev pub IsContinued : ℕ → List BatchLine → List BatchLine → List BatchLine → Type 0
IsContinued d more [] new = new ≡ more
IsContinued d more (l ∷ ls) [] = IsPast l
IsContinued d more (l ∷ ls) (k ∷ ks) =
    IsPast l ⊎ (IsMoved d l k × (0 < length ls → k.text ≡ l.text) × IsContinued d more ls ks)

-- if all lines of a file are blank, they are so further on
behind_none : (d : ℕ) (more old new : List BatchLine) → IsContinued d more old new → lines_behind_blanks old ≡ []
    → lines_behind_blanks new ≡ lines_behind_blanks more
unfolding lines_behind_blanks
behind_none d more [] new h none = ap lines_behind_blanks h
behind_none d more (l ∷ ls) (k ∷ ks) (inr h) none = grind (arith, behind_none d more ls ks h.2)
behind_none d more (l ∷ ls) (k ∷ ks) (inl past) none = absurd (grind arith)
behind_none d more (l ∷ ls) [] past none = absurd (grind arith)

-- ---- blocks

abbrev TakenBy : {A B : Type 0} → (A → B) → Type 0
TakenBy {A} f = A

-- what a line is by itself
abbrev Heading : Type 0
Heading = TakenBy is_code

-- the lines after a block, and the line that ends it, are continued
record BlockFollows (d : ℕ) (more : List BatchLine) (old new : Block) (e : BatchLine) : Type 0 where
  text : new.text ≡ old.text
  end : BatchLine
  ends : new.end ≡ Some end
  is_moved : IsMoved d e end
  rest : IsContinued d more old.rest new.rest

block_at : (d : ℕ) (more : List BatchLine) (ends : Heading → Bool) (l k : BatchLine) (ls ks : List BatchLine)
    (e : BatchLine) (b : Bool) → (l.is_past || ends l.heading) ≡ b
    → IsMoved d l k × (0 < length ls → k.text ≡ l.text) × IsContinued d more ls ks
    → ((block_of ends ls).end ≡ Some e → BlockFollows d more (block_of ends ls) (block_of ends ks) e)
    → (block_of ends (l ∷ ls)).end ≡ Some e → e.is_past ≡ false
    → BlockFollows d more (block_of ends (l ∷ ls)) (block_of ends (k ∷ ks)) e
unfolding block_of
block_at d more ends l k ls ks e true test h later is within =
    record { text = grind arith; end = k; ends = grind arith; is_moved = grind arith; rest = grind arith }
block_at d more ends l k ls ks e false test h later is within =
    let next = later (grind arith) in
    let text = h.1 (some ls (grind arith)) in
    record {
      text = grind arith;
      end = next.end;
      ends = grind arith;
      is_moved = next.is_moved;
      rest = grind arith;
    }
  where
    some : (ls : List BatchLine) → (block_of ends ls).end ≡ Some e → 0 < length ls
    some [] is = cc
    some (l ∷ ls) is = omega arith

block_follows : (d : ℕ) (more : List BatchLine) (ends : Heading → Bool) (old new : List BatchLine) (e : BatchLine)
    → IsContinued d more old new → (block_of ends old).end ≡ Some e → e.is_past ≡ false
    → BlockFollows d more (block_of ends old) (block_of ends new) e
unfolding block_of
block_follows d more ends (l ∷ ls) (k ∷ ks) e (inr h) is within =
    block_at d more ends l k ls ks e (l.is_past || ends l.heading) refl h
    (λ there. block_follows d more ends ls ks e h.2 there within) is within
block_follows d more ends (l ∷ ls) (k ∷ ks) e (inl past) is within = absurd (grind arith)
block_follows d more ends old new e h is within = absurd (grind arith)

-- ---- parts of a job

and_then_ok : {A B E : Type 0} (r : Result A E) (rest : A → Result B E) (y : B) → result_and_then r rest ≡ Ok y
    → (x : A) × (r ≡ Ok x) × (rest x ≡ Ok y)
and_then_ok (Ok x) rest y h = (x, refl, h)
and_then_ok (Err e) rest y h = cc

-- a part ends as it should
record PartEnds (closes : Heading → Bool) (b : Block) (part : PartText) : Type 0 where
  end : BatchLine
  ends : b.end ≡ Some end
  within : end.is_past ≡ false
  closed : closes end.heading ≡ true
  part_is : part ≡ (b.text, (end.number + 1, b.rest))

part_ends : (closes : Heading → Bool) (job : ℕ) (b : Block) (part : PartText) (o : Option BatchLine) → b.end ≡ o
    → part_at_end closes job b.text b.rest o ≡ Ok part → PartEnds closes b part
part_ends closes job b part None is h = absurd (cc)
part_ends closes job b part (Some e) is h =
    record { end = e; ends = is; within = grind arith; closed = grind arith; part_is = grind arith }

-- a part of a file is the same further on
record PartFollows (d : ℕ) (more : List BatchLine) (part : PartText) (new : ℕ → Result PartText Refusal) : Type 0 where
  rest : List BatchLine
  part_is : (job : ℕ) → new job ≡ Ok (part.0, (part.1.0 + d, rest))
  continued : IsContinued d more part.1.1 rest

part_follows : (d : ℕ) (more : List BatchLine) (ends closes : Heading → Bool) (job : ℕ) (old new : List BatchLine)
    (part : PartText) → IsContinued d more old new → part_in closes job (block_of ends old) ≡ Ok part
    → PartFollows d more part (λ job. part_in closes job (block_of ends new))
part_follows d more ends closes job old new part h is =
    let r = part_ends closes job (block_of ends old) part (block_of ends old).end refl is in
    let b = block_follows d more ends old new r.end h r.ends r.within in
    record { rest = (block_of ends new).rest; part_is = λ job. grind arith; continued = rw r.part_is b.rest }

-- ---- a job

-- the job is found further on, and the lines after it are continued
record Follows (d : ℕ) (more : List BatchLine) (found : JobAndRest) (new : Result JobAndRest Refusal) : Type 0 where
  rest : List BatchLine
  job : new ≡ Ok (moved d found.0, rest)
  continued : IsContinued d more found.1 rest

code_follows : (d : ℕ) (more : List BatchLine) (job : JobText) (old new : List BatchLine) (found : JobAndRest)
    → IsContinued d more old new → job_from_code job old ≡ Ok found
    → Follows d more found (job_from_code (moved d job) new)
unfolding job_from_code
code_follows d more job old new found h is =
    let p = and_then_ok (part_in is_end job.line (block_of is_end old)) _ found is in
    let q = part_follows d more is_end is_end job.line old new p.0 h p.1 in
    let there = q.part_is (job.line + d) in
    record { rest = q.rest; job = grind (arith, there, p.2); continued = grind (arith, q.continued, p.2) }

signatures_follow : (d : ℕ) (more : List BatchLine) (job : JobText) (old new : List BatchLine) (found : JobAndRest)
    → IsContinued d more old new → job_from_signatures job old ≡ Ok found
    → Follows d more found (job_from_signatures (moved d job) new)
unfolding job_from_signatures
signatures_follow d more job old new found h is =
    let p = and_then_ok (part_in is_code job.line (block_of ends_signatures old)) _ found is in
    let q = part_follows d more ends_signatures is_code job.line old new p.0 h p.1 in
    rw (q.part_is (job.line + d)) (code_follows d more _ p.0.1.1 q.rest found q.continued p.2)

-- what begins a job's signatures
begins : (head : JobLine) (job : ℕ) (l : BatchLine) (ls : List BatchLine) (found : JobAndRest)
    → whole_job head job (l ∷ ls) ≡ Ok found → (l.is_past ≡ false) × (is_signatures l.heading ≡ true)
    × (job_from_signatures (job_without_parts head job (l.number + 1)) ls ≡ Ok found)
unfolding whole_job
begins head job l ls found h = grind arith

whole_follows : (d : ℕ) (more : List BatchLine) (head : JobLine) (job : ℕ) (old new : List BatchLine)
    (found : JobAndRest)
    → IsContinued d more old new → whole_job head job old ≡ Ok found
    → Follows d more found (whole_job head (job + d) new)
unfolding whole_job
whole_follows d more head job (l ∷ ls) (k ∷ ks) found (inr h) is =
    let b = begins head job l ls found is in
    let number : k.number + 1 ≡ (l.number + 1) + d = omega (arith, h.0.number) in
    rw (h.0.within, h.0.heading, b.1, number) (signatures_follow d more _ ls ks found h.2 b.2)
whole_follows d more head job (l ∷ ls) (k ∷ ks) found (inl past) is = absurd (grind arith)
whole_follows d more head job old new found h is = absurd (grind arith)

-- ---- jobs

-- the blank lines at the front change no job
pub jobs_by_behind : (room : ℕ) (ls ks : List BatchLine) → lines_behind_blanks ls ≡ lines_behind_blanks ks
    → jobs_in room ls ≡ jobs_in room ks
unfolding jobs_in
jobs_by_behind room ls ks e = grind arith

none_found : (room : ℕ) (ls : List BatchLine) → jobs_in room ls ≡ Ok [] → lines_behind_blanks ls ≡ []
unfolding jobs_in
none_found room ls is = grind arith

head_moved : (d : ℕ) (l k : BatchLine) (head : JobLine) → IsMoved d l k → head_of l ≡ Ok head → head_of k ≡ Ok head
head_moved d l k head h is = grind arith

one_after : (job only : JobText) (r : Result (List JobText) Refusal) → jobs_after job r ≡ Ok (only ∷ [])
    → (job ≡ only) × (r ≡ Ok [])
one_after job only r e = grind arith

-- the first job of a file and the jobs after it
first_follows : (d : ℕ) (more : List BatchLine) (later room : ℕ) (job : JobText) (l k : BatchLine)
    (ls ks : List BatchLine) → IsMoved d l k → IsContinued d more ls ks
    → one_job_in (jobs_in later) (l ∷ ls) ≡ Ok (job ∷ [])
    → one_job_in (jobs_in room) (k ∷ ks) ≡ jobs_after (moved d job) (jobs_in room more)
first_follows d more later room job l k ls ks h continued is =
    let a = and_then_ok (head_of l) _ (job ∷ []) is in
    let b = and_then_ok (whole_job a.0 l.number ls) _ (job ∷ []) a.2 in
    let w = whole_follows d more a.0 l.number ls ks b.0 continued b.1 in
    let only = one_after b.0.0 job (jobs_in later b.0.1) b.2 in
    let behind = behind_none d more b.0.1 w.rest w.continued (none_found later b.0.1 only.1) in
    rw (head_moved d l k a.0 h a.1, h.number, w.job, jobs_by_behind room w.rest more behind, only.0) refl

-- if lines are those of one job, and others follow: that job, and the jobs of the others
pub job_follows : (d : ℕ) (more : List BatchLine) (later room : ℕ) (job : JobText) (old new : List BatchLine)
    → IsContinued d more old new → jobs_in (suc later) old ≡ Ok (job ∷ [])
    → jobs_in (suc room) new ≡ jobs_after (moved d job) (jobs_in room more)
unfolding jobs_in lines_behind_blanks
job_follows d more later room job (l ∷ ls) (k ∷ ks) (inr h) is =
    grind (arith, job_follows d more later room job ls ks h.2, first_follows d more later room job l k ls ks h.0 h.2)
job_follows d more later room job (l ∷ ls) (k ∷ ks) (inl past) is = absurd (grind arith)
job_follows d more later room job old new h is = absurd (grind arith)
