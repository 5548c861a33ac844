-- Manifests as texts: an entry for the batch, and one for each job, each with a NUL at its end.
use Rattle.std.specs.Prelude.{◌≢◌, ℕ, ◌+◌, ◌<◌, ◌^◌, List, [], ◌∷◌, ◌++◌, All, codes, decimal}

-- ---- jobs

-- a job: the line of the batch at which its file begins, its name, and the name of its file
pub record PackedText : Type 0 where
  pub first_line : ℕ
  pub name : List ℕ
  pub file : List ℕ

-- the words of the job at this place
unfoldable pub job_words : ℕ → PackedText → List ℕ
job_words place job =
    decimal place ++ (codes " " ++ (decimal job.first_line ++ (codes " " ++ (job.name ++ (codes " " ++ job.file)))))

-- the entries of these jobs, the first of which has this place
abbrev pub job_entries : ℕ → List PackedText → List ℕ
job_entries place [] = []
job_entries place (job ∷ jobs) = job_words place job ++ (0 ∷ job_entries (place + 1) jobs)

-- its line has at most 64 bits, its name is a word, and neither name has a NUL
pub record IsPackedText (job : PackedText) : Type 0 where
  pub fits : job.first_line < 2 ^ 64
  pub word : All (λ byte. byte ≢ 32) job.name
  pub whole_name : All (λ byte. byte ≢ 0) job.name
  pub whole_file : All (λ byte. byte ≢ 0) job.file

-- ---- the batch

-- a batch: how many bytes it has, their digest, how many jobs it has, and the name of its file
pub record BatchSeal : Type 0 where
  pub bytes : ℕ
  pub digest : List ℕ
  pub jobs : ℕ
  pub file : List ℕ

-- the words of a batch after the format
unfoldable pub seal_words : BatchSeal → List ℕ
seal_words seal =
    decimal seal.bytes ++ (codes " " ++ (seal.digest ++ (codes " " ++ (decimal seal.jobs ++ (codes " " ++ seal.file)))))

-- the words of a batch
abbrev pub batch_words : BatchSeal → List ℕ
batch_words seal = codes "vjobs-manifest-2 " ++ seal_words seal

-- its numbers have at most 64 bits, the digest is a word, and neither it nor the name has a NUL
pub record IsBatchSeal (seal : BatchSeal) : Type 0 where
  pub bytes_fit : seal.bytes < 2 ^ 64
  pub jobs_fit : seal.jobs < 2 ^ 64
  pub word : All (λ byte. byte ≢ 32) seal.digest
  pub whole_digest : All (λ byte. byte ≢ 0) seal.digest
  pub whole_file : All (λ byte. byte ≢ 0) seal.file

-- ---- manifests

abbrev pub manifest_text : BatchSeal → List PackedText → List ℕ
manifest_text seal jobs = batch_words seal ++ (0 ∷ job_entries 1 jobs)
