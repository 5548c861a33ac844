-- What becomes of a job whose lines are moved is what becomes of the job, further on.
use Rattle.std.proofs.Common.{◌≡◌, ◌≤◌, ◌+◌, ◌-◌, ℕ, List, [], ◌∷◌, refl, sym, ap, subst, ◌∙◌, arith}
use Rattle.std.proofs.Common.{Option, Some, None, Result, Ok, Err}
use Rattle.std.specs.Prelude.{map, option_map, IfSome}
use Rattle.vcode_base.specs.declared.kind.Kind.{Kind}
use Rattle.vcode_base.specs.declared.limits.Limits.{Limits}
use Rattle.vcode_base.specs.declared.outcome.Outcome.{Outcome}
use Rattle.vcode_base.specs.declared.rule.Rule.{Rule}
use Rattle.vcode_base.specs.Names.{main_name}
use Rattle.vcode_reader.specs.Reading.{reading as code_reading}
use Rattle.vcode_reader.specs.Refusals.{Fault as CodeRefusal}
use Rattle.vcode_reader.specs.Trees.{Function, Program}
use Rattle.signatures.specs.First.{EveryTextIsRead, OneReading}
use Rattle.signatures.specs.Signatures.{FunctionType, Signature, kinds_of}
use Rattle.verifier.specs.Faults.{Fault as KindRefusal}
use Rattle.verifier.specs.Typed.{TypedProgram}
use Rattle.job_steps.specs.Runs.{outcome}
use Rattle.job_steps.specs.States.{JobValue, Task, Vector, ruled}
use Rattle.batch_reader.specs.declared.entry.Fate.{Fate}
use Rattle.batch_reader.specs.declared.entry.Fate.TheVariants.{Ready, Refused}
use Rattle.batch_reader.specs.declared.fault.JobFault.TheVariants.{Read}
use Rattle.batch_reader.specs.Batches.{JobText}
use Rattle.batch_reader.specs.Chains.{result_and_then}
use Rattle.batch_reader.specs.Fates.{IsFate, IsReady, JobRefusal, SignedProgram, kinded_program}
use Rattle.batch_reader.specs.Fates.{refusal_by, signatures_of, signed_or_fault, signed_program_of}
use Rattle.batch_front.specs.Reports.{report_of, ruled_entry, ruled_fate}
use Rattle.batch_packer.specs.Joins.{moved}
use Rattle.report_laws.specs.EntryParts.{fate_end, line_end}
use Rattle.report_laws.specs.Laws.{EndsFurtherOn, FilesAreCut, IsFateFurtherOn}
use Rattle.report_laws.specs.MovedCode.{code_further_on, fault_further_on, further_on, moved_function, moved_outcome}
use Rattle.report_laws.specs.MovedCode.{moved_program, moved_task}
use Rattle.report_laws.proofs.KindLemmas.{kinds_move}
use Rattle.report_laws.proofs.LawLemmas.{own_reports_are_cut}
use Rattle.report_laws.proofs.ReadingLemmas.{code_moves}
use Rattle.report_laws.proofs.RefusalLemmas.{signatures_move}
use Rattle.report_laws.proofs.RunLemmas.{runs_move}

abbrev Signed : Type 0
Signed = Result SignedProgram JobRefusal

abbrev signed_further_on : ℕ → Signed → Signed
signed_further_on n (Ok signed) = Ok (signed.0, moved_program n signed.1)
signed_further_on n (Err refusal) = Err (fault_further_on n refusal)

abbrev IsOk : Signed → Type 0
IsOk (Ok signed) = Unit {0}
IsOk (Err refusal) = ⊥

abbrev ok_of : SignedProgram → Signed
ok_of signed = Ok signed

abbrev err_of : JobRefusal → Signed
err_of refusal = Err refusal

ok_isnt_err : (signed : SignedProgram) (refusal : JobRefusal) → ok_of signed ≡ err_of refusal → ⊥
ok_isnt_err signed refusal e = subst IsOk e tt

abbrev refused_by : JobRefusal → Fate Task
refused_by refusal = Refused refusal.1 refusal.0

-- ---- the program of the moved job

module _ (n : ℕ) where
  by_kinds : (signed : SignedProgram) (fault : Option KindRefusal)
      → signed_or_fault (signed.0, moved_program n signed.1) (option_map (fault_further_on n) fault)
      ≡ signed_further_on n (signed_or_fault signed fault)
  by_kinds signed fault = grind arith

  by_code : (signatures : List Signature) (r : Result Program CodeRefusal)
      → result_and_then (refusal_by Read (code_further_on n r)) (kinded_program signatures)
      ≡ signed_further_on n (result_and_then (refusal_by Read r) (kinded_program signatures))
  by_code signatures r = grind (arith, kinds_move, by_kinds)

  by_signatures : (job : JobText) (r : Result (List Signature) JobRefusal)
      → result_and_then (further_on n r) (λ (signatures : List Signature).
      result_and_then (refusal_by Read (code_reading (job.code_line + n) job.code)) (kinded_program signatures))
      ≡ signed_further_on n (result_and_then r (λ (signatures : List Signature).
      result_and_then (refusal_by Read (code_reading job.code_line job.code)) (kinded_program signatures)))
  by_signatures job r = grind (arith, code_moves, by_code)

  module _ (every : EveryTextIsRead) (one : OneReading) where
    signed_moved : (region : ℕ) (job : JobText)
        → signed_program_of region (moved n job) ≡ signed_further_on n (signed_program_of region job)
    unfolding signed_program_of
    signed_moved region job =
        ap (λ (r : Result (List Signature) JobRefusal). result_and_then r (λ (signatures : List Signature).
        result_and_then (refusal_by Read (code_reading (job.code_line + n) job.code)) (kinded_program signatures)))
        (signatures_move every one region n job)
        ∙ by_signatures job (signatures_of region job)

-- ---- what is known of a program's kinds

somes : {X : Type 0} → List (Option X) → List X
somes [] = []
somes (None ∷ os) = somes os
somes (Some x ∷ os) = x ∷ somes os

somes_of : {X : Type 0} (xs : List X) → somes (map (λ (x : X). Some x) xs) ≡ xs
unfolding somes
somes_of [] = refl
somes_of {X} (x ∷ xs) = ap (λ (ys : List X). x ∷ ys) (somes_of xs)

same_kinds : (n : ℕ) (signatures : List Signature) (fs : List Function)
    → map (λ (f : Function). kinds_of signatures f.name) (map (moved_function n) fs)
    ≡ map (λ (f : Function). kinds_of signatures f.name) fs
same_kinds n signatures [] = refl
same_kinds n signatures (f ∷ fs) = grind (arith, same_kinds n signatures fs)

abbrev second_or : List Kind → Option FunctionType → List Kind
second_or ks None = ks
second_or ks (Some arrow) = arrow.1

abbrev signed_or : SignedProgram → Signed → SignedProgram
signed_or signed (Ok found) = found
signed_or signed (Err refusal) = signed

abbrev refused_or : JobRefusal → Signed → JobRefusal
refused_or refusal (Ok found) = refusal
refused_or refusal (Err found) = found

abbrev typed_of : Program → List FunctionType → List Kind → TypedProgram
typed_of program arrows results = record { program = program; arrows = arrows; results = results }

abbrev task_of : List ℕ → TypedProgram → Limits → Rule → Task
task_of name verified limits rule = record { name = name; verified = verified; limits = limits; rule = rule }

-- a job that runs the moved program is the moved task
module _ (n region : ℕ) (rule : Rule) (job : JobText) (own other : JobValue) where
  ready_moved : (a : IsReady region job own) → (b : IsReady region (moved n job) other)
      → b.signatures ≡ a.signatures → other.verified.program ≡ moved_program n own.verified.program
      → ruled rule other ≡ moved_task n (ruled rule own)
  ready_moved a b same program =
      let kinds : map (λ (f : Function). kinds_of b.signatures f.name) other.verified.program.functions
      ≡ map (λ (f : Function). kinds_of a.signatures f.name) own.verified.program.functions =
      ap (λ (s : List Signature). map (λ (f : Function). kinds_of s f.name) other.verified.program.functions) same
      ∙ ap (λ (p : Program). map (λ (f : Function). kinds_of a.signatures f.name) p.functions) program
      ∙ same_kinds n a.signatures own.verified.program.functions in
      let arrows : other.verified.arrows ≡ own.verified.arrows =
      sym (somes_of other.verified.arrows) ∙ ap somes (sym b.verified.arrows ∙ kinds ∙ a.verified.arrows)
      ∙ somes_of own.verified.arrows in
      let results : other.verified.results ≡ own.verified.results =
      ap (second_or other.verified.results) (sym b.verified.results
      ∙ ap (λ (s : List Signature). kinds_of s main_name) same ∙ a.verified.results) in
      ap (λ (name : List ℕ). task_of name other.verified other.limits rule) (b.name ∙ sym a.name)
      ∙ ap (λ (limits : Limits). task_of own.name other.verified limits rule) (b.limits ∙ sym a.limits)
      ∙ ap (λ (p : Program). task_of own.name (typed_of p other.verified.arrows other.verified.results) own.limits rule)
      program
      ∙ ap (λ (arrows : List FunctionType). task_of own.name (typed_of (moved_program n own.verified.program) arrows
      other.verified.results) own.limits rule) arrows
      ∙ ap (λ (results : List Kind). task_of own.name (typed_of (moved_program n own.verified.program)
      own.verified.arrows results) own.limits rule) results

-- ---- fates

module _ (every : EveryTextIsRead) (one : OneReading) (rule : Rule) (region n : ℕ) (job : JobText) where
  from_own : (r : Signed) → signed_program_of region job ≡ r
      → signed_program_of region (moved n job) ≡ signed_further_on n r
  from_own r e = signed_moved n every one region job ∙ ap (signed_further_on n) e

  fates_move : (own other : Fate JobValue) → IsFate region job own → IsFate region (moved n job) other
      → IsFateFurtherOn n (ruled_fate rule own) (ruled_fate rule other)
  fates_move (Ready own) (Ready other) a b =
      let found : Ok (b.signatures, other.verified.program)
      ≡ signed_further_on n (Ok (a.signatures, own.verified.program)) =
      sym b.program ∙ from_own (Ok (a.signatures, own.verified.program)) a.program in
      let signed : (b.signatures, other.verified.program)
      ≡ (a.signatures, moved_program n own.verified.program) =
      ap (signed_or (b.signatures, other.verified.program)) found in
      let same : ruled rule other ≡ moved_task n (ruled rule own) =
      ready_moved n region rule job own other a b (ap (λ (s : SignedProgram). s.0) signed)
      (ap (λ (s : SignedProgram). s.1) signed) in
      subst (λ (t : Task). EndsFurtherOn n (ruled rule own) t) (sym same) (runs_move n (ruled rule own))
  fates_move (Ready own) (Refused line fault) a b =
      let bad : Err (fault, line) ≡ signed_further_on n (Ok (a.signatures, own.verified.program)) =
      sym b ∙ from_own (Ok (a.signatures, own.verified.program)) a.program in
      absurd (ok_isnt_err (a.signatures, moved_program n own.verified.program) (fault, line) (sym bad))
  fates_move (Refused line fault) (Ready other) a b =
      let bad : Ok (b.signatures, other.verified.program) ≡ signed_further_on n (Err (fault, line)) =
      sym b.program ∙ from_own (Err (fault, line)) a in
      absurd (ok_isnt_err (b.signatures, other.verified.program) (fault, line + n) bad)
  fates_move (Refused line fault) (Refused next found) a b =
      let same : Err (found, next) ≡ signed_further_on n (Err (fault, line)) = sym b ∙ from_own (Err (fault, line)) a in
      ap (λ (refusal : JobRefusal). refused_by refusal) (ap (refused_or (found, next)) same)

-- ---- lines count from 1

late_line : (l : ℕ) → 1 ≤ l + 1
late_line l = omega arith

late_outcome : (o : Outcome (List Vector)) → IfSome (line_end (moved_outcome 1 o)) (λ end. 1 ≤ end.line)
late_outcome o = grind (arith, late_line)

module _ (every : EveryTextIsRead) (one : OneReading) (rule : Rule) (region : ℕ) (job : JobText) where
  late_refusal : (r : Signed) (refusal : JobRefusal) → Err refusal ≡ signed_further_on 1 r → 1 ≤ refusal.1
  late_refusal r refusal h1 = grind (arith, ok_isnt_err, late_line)

  late_program : (r : Signed) (task : Task) (signatures : List Signature)
      → Ok (signatures, task.verified.program) ≡ signed_further_on 1 r
      → IfSome (line_end (outcome task)) (λ end. 1 ≤ end.line)
  late_program (Ok signed) task signatures e =
      let program : task.verified.program ≡ moved_program 1 signed.1 =
      ap (λ (r : Signed). (signed_or (signatures, task.verified.program) r).1) e in
      let before : Task = task_of task.name (typed_of signed.1 task.verified.arrows task.verified.results)
      task.limits task.rule in
      let same : task ≡ moved_task 1 before =
      ap (λ (p : Program). task_of task.name (typed_of p task.verified.arrows task.verified.results) task.limits
      task.rule) program in
      subst (λ (o : Outcome (List Vector)). IfSome (line_end o) (λ end. 1 ≤ end.line))
      (sym (ap outcome same ∙ (runs_move 1 before).ends)) (late_outcome (outcome before))
  late_program (Err refusal) task signatures e =
      absurd (ok_isnt_err (signatures, task.verified.program) (fault_further_on 1 refusal) e)

  late_fate : (own : Fate JobValue) → IsFate region (moved 1 job) own
      → IfSome (fate_end (ruled_fate rule own)) (λ end. 1 ≤ end.line)
  late_fate (Ready own) a =
      late_program (signed_program_of region job) (ruled rule own) a.signatures
      (sym a.program ∙ signed_moved 1 every one region job)
  late_fate (Refused line fault) a =
      late_refusal (signed_program_of region job) (fault, line) (sym a ∙ signed_moved 1 every one region job)

abbrev job_at : JobText → ℕ → ℕ → ℕ → JobText
job_at job line signatures code =
    record job { line = line; signatures_line = signatures; code_line = code }

before_line : (l : ℕ) → 1 ≤ l → (l - 1) + 1 ≡ l
before_line l h = omega arith

pub files_are_cut : EveryTextIsRead → OneReading → FilesAreCut
unfolding report_of
files_are_cut every one rule region n job own other numbered a b =
    let earlier : JobText = job_at job (job.line - 1) (job.signatures_line - 1) (job.code_line - 1) in
    let same : moved 1 earlier ≡ job =
    ap (λ (l : ℕ). job_at job l (job.signatures_line - 1 + 1) (job.code_line - 1 + 1))
    (before_line job.line numbered.line)
    ∙ ap (λ (l : ℕ). job_at job job.line l (job.code_line - 1 + 1))
    (before_line job.signatures_line numbered.signatures_line)
    ∙ ap (job_at job job.line job.signatures_line) (before_line job.code_line numbered.code_line) in
    let late = late_fate every one rule region earlier own.fate
    (subst (λ (j : JobText). IsFate region j own.fate) (sym same) a.fate) in
    own_reports_are_cut n (ruled_entry rule own) (ruled_entry rule other) (b.name ∙ sym a.name)
    (fates_move every one rule region n job own.fate other.fate a.fate b.fate) late
