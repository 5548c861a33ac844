-- A file that is read as a batch.
use Rattle.std.proofs.Common.{◌≡◌, ℕ, ◌<◌, List, [], ◌∷◌, length, get_or, Ok, Err, refl, sym, ap, ◌∙◌, arith, subst}
use Rattle.vcode_base.specs.declared.rule.Rule.{Rule}
use Rattle.job_steps.specs.States.{JobValue}
use Rattle.batch_reader.specs.declared.entry.Batch.{Batch as Batched}
use Rattle.batch_reader.specs.declared.entry.Batch.TheVariants.{Jobs}
use Rattle.batch_reader.specs.declared.entry.Fate.{Fate}
use Rattle.batch_reader.specs.declared.entry.Fate.TheVariants.{Ready, Refused}
use Rattle.batch_reader.specs.declared.fault.JobFault.{JobFault}
use Rattle.batch_reader.specs.Batches.{JobText, jobs_of}
use Rattle.batch_reader.specs.Fates.{AreEntries, IsBatch, IsFate, JobEntry, signed_program_of}
use Rattle.batch_packer.specs.declared.fault.PackFault.{PackFault}
use Rattle.batch_packer.specs.declared.fault.PackFault.TheVariants.{Memory, Batch}
use Rattle.batch_packer.specs.Packs.{HoldsNamed, IsNamedRunnable, RefusesFile, RefusesJobs}

-- no entry, no job
pub no_entries : (region : ℕ) (jobs : List JobText) (entries : List JobEntry) → length entries ≡ 0
    → AreEntries region jobs entries → jobs ≡ []
no_entries region [] entries none are = refl
no_entries region jobs entries none are = absurd (grind arith)

-- two entries, two jobs
pub many_entries : (region : ℕ) (jobs : List JobText) (entries : List JobEntry) → 1 < length entries
    → AreEntries region jobs entries
    → (first : JobText) × (second : JobText) × (more : List JobText) × (jobs ≡ first ∷ second ∷ more)
many_entries region (job ∷ second ∷ jobs) entries many are = (job, second, jobs, refl)
many_entries region jobs entries many are = absurd (grind arith)

-- the entry of the only job
pub record OnlyEntry (region : ℕ) (jobs : List JobText) (entry : JobEntry) : Type 0 where
  pub job : JobText
  pub only : jobs ≡ job ∷ []
  pub name : entry.name ≡ job.head.name
  pub fate : IsFate region job entry.fate

pub only_entry : (region : ℕ) (jobs : List JobText) (entries : List JobEntry) (any : JobEntry) → length entries ≡ 1
    → AreEntries region jobs entries → OnlyEntry region jobs (get_or entries 0 any)
only_entry region (job ∷ []) (entry ∷ entries) any one are =
    record { job = job; only = refl; name = are.0.name; fate = are.0.fate }
only_entry region jobs entries any one are = absurd (grind arith)

pub ready_entry : (region : ℕ) (jobs : List JobText) (entries all : List JobEntry) (any entry : JobEntry)
    (ready : JobValue) (name : List ℕ)
    → all ≡ entries → length entries ≡ 1 → AreEntries region jobs entries → entry ≡ get_or all 0 any
    → entry.fate ≡ Ready ready → name ≡ entry.name → IsNamedRunnable region jobs name
ready_entry region jobs entries all any entry ready name same one are here is called =
    let o = only_entry region jobs entries any one are in
    let found : entry ≡ get_or entries 0 any = here ∙ ap (λ (es : List JobEntry). get_or es 0 any) same in
    let fate : IsFate region o.job (Ready ready) = subst (λ (f : Fate JobValue). IsFate region o.job f)
    (ap (λ (e : JobEntry). e.fate) (sym found) ∙ is) o.fate in
    record {
      runnable = record {
        job = o.job;
        only = o.only;
        program = (fate.signatures, ready.verified.program);
        runs = fate.program;
      };
      name_is = called ∙ ap (λ (e : JobEntry). e.name) found ∙ o.name;
    }

pub refused_entry : (region : ℕ) (jobs : List JobText) (entries all : List JobEntry) (any : JobEntry) (line : ℕ)
    (fault : JobFault)
    → all ≡ entries → length entries ≡ 1 → AreEntries region jobs entries → (get_or all 0 any).fate ≡ Refused line fault
    → (job : JobText) × (jobs ≡ job ∷ []) × (signed_program_of region job ≡ Err (fault, line))
refused_entry region jobs entries all any line fault same one are is =
    let o = only_entry region jobs entries any one are in
    let fate : IsFate region o.job (Refused line fault) = subst (λ (f : Fate JobValue). IsFate region o.job f)
    (ap (λ (es : List JobEntry). (get_or es 0 any).fate) (sym same) ∙ is) o.fate in
    (o.job, o.only, fate)

-- ---- the answer to a file

pub holds_job : (region other : ℕ) (bytes : List ℕ) (batch : Batched (List JobEntry)) (rule : Rule)
    (entries : List JobEntry) (name : List ℕ)
    → other ≡ region → batch ≡ Jobs rule entries → IsBatch other bytes batch
    → ((r : ℕ) (jobs : List JobText) → AreEntries r jobs entries → IsNamedRunnable r jobs name)
    → HoldsNamed region bytes rule name
holds_job region other bytes batch rule entries name same is answer runs =
    let b : IsBatch region bytes (Jobs rule entries) = rw (same, is) at answer in
    let named = runs region b.0 b.2 in
    record { holds = record { jobs = b.0; is_batch = b.1; runnable = named.runnable }; name_is = named.name_is }

refused : (region : ℕ) (bytes : List ℕ) (rule : Rule) (jobs : List JobText) (fault : PackFault)
    → jobs_of bytes ≡ Ok (rule, jobs) → RefusesJobs region jobs fault → RefusesFile region bytes fault
refused region bytes rule jobs (Batch line fault) is h = absurd h
refused region bytes rule jobs Memory is h = tt
refused region bytes rule jobs fault is h = (rule, jobs, is, h)

pub refuses_jobs : (region other : ℕ) (bytes : List ℕ) (batch : Batched (List JobEntry)) (rule : Rule)
    (entries : List JobEntry) (fault : PackFault)
    → other ≡ region → batch ≡ Jobs rule entries → IsBatch other bytes batch
    → ((r : ℕ) (jobs : List JobText) → AreEntries r jobs entries → RefusesJobs r jobs fault)
    → RefusesFile region bytes fault
refuses_jobs region other bytes batch rule entries fault same is answer refuses =
    let b : IsBatch region bytes (Jobs rule entries) = rw (same, is) at answer in
    refused region bytes rule b.0 fault b.1 (refuses region b.0 b.2)
