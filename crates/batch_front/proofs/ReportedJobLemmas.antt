-- The jobs of a batch on a machine: their numbers, and what is reported of them.
use Rattle.std.proofs.Common.{◌≡◌, ℕ, zero, suc, ◌+◌, ◌-◌, ◌≤◌, ◌<◌, take, get_or, Bool}
use Rattle.std.proofs.Common.{List, [], ◌∷◌, ◌++◌, length}
use Rattle.std.proofs.Common.{cond, map, refl, arith, Some}
use Rattle.std.specs.Prelude.{All, slice_get, if◌then◌else◌}
use Rattle.std.specs.List.{list_all}
use Rattle.std.proofs.lemmas.List.{append-nil, append_assoc, length-append, map-append}
use Rattle.std.proofs.lemmas.List.Elements.{All-cons, All-append}
use Rattle.std.proofs.lemmas.Grind.{common_steps}
use Rattle.std.proofs.lemmas.List.Recursion.{is_count_by}
use Rattle.std.proofs.lemmas.Option.{none-some}
use Rattle.vcode_base.specs.declared.rule.Rule.{Rule}
use Rattle.job_steps.specs.Standings.{of_job}
use Rattle.job_steps.specs.States.{JobValue, Task, ruled}
use Rattle.job_machine.specs.Machines.{MachineState}
use Rattle.batch_reader.specs.declared.entry.Entry.{Entry}
use Rattle.batch_reader.specs.declared.entry.Fate.{Fate}
use Rattle.batch_reader.specs.Fates.{JobEntry, IsFate, AreEntries, IsBatch}
use Rattle.batch_reader.specs.Batches.{JobText}
use Rattle.batch_reader.specs.declared.entry.Batch.{Batch}
use Rattle.batch_front.specs.Reports.{TaskEntry, ruled_entries, ruled_fate}
use Rattle.batch_front.specs.Reports.{entries_text, fate_text, has_returned, is_refused}
use Rattle.batch_front.specs.Reports.{jobs_status, jobs_text, refused_count}
use Rattle.batch_front.specs.LoadedBatches.{AreJobsOf}
use Rattle.batch_front.specs.ReportedJobs.{AreAmong, AreLoaded, AreReportedOf, BatchFits, EntriesFit, FateFits, IsAmong}
use Rattle.batch_front.specs.ReportedJobs.{IsFateOn, IsReportedOf, ReportedJob}
use Rattle.batch_front.specs.ReportedJobs.{fate_tasks, fate_text_on, has_returned_on, have_returned_on, report_text}
use Rattle.batch_front.specs.ReportedJobs.{reported_job_text, reported_status}
use Rattle.batch_front.specs.ReportedJobs.{reported_jobs_text, tasks_of}
use Rattle.std.proofs.lemmas.Grind.{elements}
use Rattle.std.proofs.lemmas.Option.{slice_get-map}
use Rattle.batch_reader.specs.declared.entry.Fate.TheVariants.{Ready, Refused}

-- a job's name with its fate
abbrev EntryOf : Type 0 → Type 0
EntryOf T = Entry (List ℕ) (Fate T)

-- if tasks are added after others, these keep their numbers
at_front : {T : Type 0} (xs ys : List T) (place : ℕ) (task : T) → slice_get xs place ≡ Some task
    → slice_get (xs ++ ys) place ≡ Some task
at_front [] ys place task e = cc
at_front (x ∷ xs) ys zero task e = e
at_front (x ∷ xs) ys (suc place) task e = at_front xs ys place task e

at_end : {T : Type 0} (xs : List T) (task : T) → slice_get (xs ++ task ∷ []) (length xs) ≡ Some task
at_end [] task = refl
at_end (x ∷ xs) task = at_end xs task

-- the last task has their count as its number
pub last_number : {T : Type 0} (xs : List T) (task : T) → of_job (length (xs ++ task ∷ []))
    (xs ++ task ∷ []) ≡ Some task
last_number xs task = grind (arith, common_steps, at_end xs task)

one_kept : {T : Type 0} (xs ys : List T) (reported_job : ReportedJob) (entry : EntryOf T) →
    IsReportedOf xs reported_job entry → IsReportedOf (xs ++ ys) reported_job entry
one_kept xs ys reported_job entry h = grind (arith, at_front)

pushed : {T : Type 0} (old more : List T) (reported : List ReportedJob) (entries : List (EntryOf T))
    (reported_job : ReportedJob) (entry : EntryOf T)
    → AreReportedOf old reported entries → IsReportedOf (old ++ more) reported_job entry
    → AreReportedOf (old ++ more) (reported ++ reported_job ∷ []) (entries ++ entry ∷ [])
pushed old more [] [] reported_job entry h last = (last, tt)
pushed old more [] (e ∷ es) reported_job entry h last = absurd h
pushed old more (r ∷ rs) [] reported_job entry h last = absurd h
pushed old more (r ∷ rs) (e ∷ es) reported_job entry h last =
    (one_kept old more r e h.0, pushed old more rs es reported_job entry h.1 last)

-- one job more
pub reported_pushed : {T : Type 0} (old new more : List T) (reported : List ReportedJob) (entries : List (EntryOf T))
    (reported_job : ReportedJob) (entry : EntryOf T)
    → new ≡ old ++ more → AreReportedOf old reported entries → IsReportedOf new reported_job entry
    → AreReportedOf new (reported ++ reported_job ∷ []) (entries ++ entry ∷ [])
reported_pushed old new more reported entries reported_job entry e h last = grind (arith, pushed)

pub tasks_pushed : {T : Type 0} (entries : List (EntryOf T)) (entry : EntryOf T)
    → tasks_of (entries ++ entry ∷ []) ≡ tasks_of entries ++ fate_tasks entry.fate
tasks_pushed [] entry = grind arith
tasks_pushed (e ∷ es) entry = grind (arith, tasks_pushed es entry, append_assoc)

-- there are no more tasks than jobs, and the others are refused
counted : {T : Type 0} (entries : List (EntryOf T)) → length (tasks_of entries) + refused_count entries ≡ length entries
counted [] = refl
counted (e ∷ es) = grind (arith, common_steps, counted es)

tasks_fewer : {T : Type 0} (entries : List (EntryOf T)) → length (tasks_of entries) ≤ length entries
tasks_fewer [] = omega arith
tasks_fewer (e ∷ es) = grind (arith, tasks_fewer es, length-append)

pub tasks_few : {T : Type 0} (entries : List (EntryOf T)) (tasks : List T) (most : ℕ) → tasks ≡ tasks_of entries
    → length entries ≤ most → length tasks ≤ most
tasks_few entries tasks most e h = grind (arith, tasks_fewer)

pub tasks_fit : (region : ℕ) (entries : List JobEntry) → EntriesFit region entries
    → All (λ job. job.limits.words ≤ region) (tasks_of entries)
tasks_fit region [] h = grind arith
tasks_fit region (e ∷ es) h = grind (arith, All-append, tasks_fit region es h.1)

entries_fit : (region : ℕ) (jobs : List JobText) (entries : List JobEntry) → AreEntries region jobs entries
    → EntriesFit region entries
entries_fit region [] entries h = grind arith
entries_fit region (j ∷ js) [] h = absurd h
entries_fit region (j ∷ js) (e ∷ es) h = grind (arith, entries_fit region js es)

pub batch_fits : (region : ℕ) (bytes : List ℕ) (batch : Batch (List JobEntry)) → IsBatch region bytes batch
    → BatchFits region batch
batch_fits region bytes batch h = grind (arith, entries_fit)

-- what is reported by numbers is what is reported of the jobs
record Told (tasks : List Task) (number : ℕ) (reported : List ReportedJob) (entries : List TaskEntry) : Type 0 where
  count : length reported ≡ length entries
  among : AreAmong tasks reported
  text : reported_jobs_text tasks number reported ≡ entries_text number entries
  returned : have_returned_on tasks reported ≡ list_all (λ (entry : TaskEntry). has_returned entry.fate) entries

all_told : (tasks : List Task) (number : ℕ) (reported : List ReportedJob) (entries : List TaskEntry)
    → AreReportedOf tasks reported entries → Told tasks number reported entries
all_told tasks number [] [] h = grind arith
all_told tasks number [] (e ∷ es) h = absurd h
all_told tasks number (s ∷ ss) [] h = absurd h
all_told tasks number (s ∷ ss) (e ∷ es) h = grind (arith, elements, all_told tasks (number + 1) ss es h.1)

-- the lines of one job more
one_told_more : (tasks : List Task) (number : ℕ) (reported : List ReportedJob) (place : ℕ) (any : ReportedJob) →
    place < length reported
    → reported_jobs_text tasks number (take (place + 1) reported)
    ≡ reported_jobs_text tasks number (take place reported) ++ reported_job_text tasks (number + place)
    (get_or reported place any)
one_told_more tasks number [] place any h = grind arith
one_told_more tasks number (s ∷ ss) zero any h = grind (arith, append-nil)
one_told_more tasks number (s ∷ ss) (suc place) any h =
    grind (arith, append_assoc, one_told_more tasks (number + 1) ss place any)

pub reported_with_one : (tasks : List Task) (reported : List ReportedJob) (place : ℕ) (reported_job : ReportedJob) →
    place < length reported
    → reported_job ≡ get_or reported place reported_job
    → reported_jobs_text tasks 1 (take place reported) ++ reported_job_text tasks
    (place + 1) reported_job ≡ reported_jobs_text tasks 1 (take
    (place + 1) reported)
reported_with_one tasks reported place reported_job l e =
    grind (arith, one_told_more tasks 1 reported place reported_job)

pub record IsTold (tasks : List Task) (reported : List ReportedJob) (entries : List TaskEntry) : Type 0 where
  pub among : AreAmong tasks reported
  pub fewer : length tasks ≤ length reported
  pub report : report_text tasks reported ≡ jobs_text entries
  pub status : reported_status tasks reported ≡ jobs_status entries

pub told_of : (tasks : List Task) (reported : List ReportedJob) (entries : List TaskEntry) →
    AreLoaded tasks reported entries
    → IsTold tasks reported entries
told_of tasks reported entries h =
    grind (arith, counted entries, all_told tasks 1 reported entries h.reported_are, h.tasks_are)

-- a machine with the reported jobs of the entries
pub jobs_on : (m : MachineState) (reported shown : List ReportedJob) (entries : List TaskEntry) → shown ≡ reported
    → AreLoaded m.tasks reported entries → AreJobsOf m shown
jobs_on m reported shown entries e h = grind (arith, told_of)

-- under the rule of the batch
fate_ruled : (rule : Rule) (jobs : List JobValue) (reported_job : Fate ℕ) (fate : Fate JobValue) →
    IsFateOn jobs reported_job fate
    → IsFateOn (map (ruled rule) jobs) reported_job (ruled_fate rule fate)
fate_ruled rule jobs reported_job fate h = grind (arith, none-some, slice_get-map, ruled_fate)

reported_ruled : (rule : Rule) (jobs : List JobValue) (reported : List ReportedJob) (entries : List JobEntry)
    → AreReportedOf jobs reported entries → AreReportedOf (map (ruled rule) jobs) reported (ruled_entries rule entries)
reported_ruled rule jobs [] [] h = tt
reported_ruled rule jobs [] (e ∷ es) h = absurd h
reported_ruled rule jobs (s ∷ ss) [] h = absurd h
reported_ruled rule jobs (s ∷ ss) (e ∷ es) h =
    grind (arith, fate_ruled rule jobs s.fate e.fate, reported_ruled rule jobs ss es)

tasks_ruled : (rule : Rule) (entries : List JobEntry)
    → map (ruled rule) (tasks_of entries) ≡ tasks_of (ruled_entries rule entries)
tasks_ruled rule [] = refl
tasks_ruled rule (e ∷ es) = grind (arith, map-append, tasks_ruled rule es)

-- the reported jobs of a machine that took jobs over and has this rule
pub loaded_by : (rule : Rule) (tasks : List Task) (jobs : List JobValue) (reported : List ReportedJob)
    (all entries : List JobEntry)
    → tasks ≡ map (ruled rule) jobs → all ≡ entries → AreReportedOf jobs reported all → jobs ≡ tasks_of all
    → AreLoaded tasks reported (ruled_entries rule entries)
loaded_by rule tasks jobs reported all entries e f h k =
    grind (arith, ruled_entries, map, ruled, tasks_ruled, reported_ruled)

-- the numbers of the jobs
pub ruleset numbers = (last_number, reported_pushed, tasks_pushed, reported_with_one)
