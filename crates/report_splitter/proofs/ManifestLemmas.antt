-- The entries of a manifest, one after another.
use Rattle.std.proofs.Common.{rules, ◌≡◌, ◌≢◌, ◌<◌, ◌+◌, ◌^◌, ℕ, List, [], ◌∷◌, ◌++◌, length, sym, ap, ◌∙◌, arith}
use Rattle.std.specs.Prelude.{All, codes, decimal}
use Rattle.std.proofs.lemmas.List.{append_assoc, append-nil, length-append}
use Rattle.std.proofs.lemmas.List.Elements.{All-append, All-head, All-tail}
use Rattle.report_splitter.specs.Fronts.{IsSplitAt}
use Rattle.report_splitter.specs.Manifests.{BatchSeal, IsBatchSeal, IsPackedText, PackedText, batch_words, job_entries}
use Rattle.report_splitter.specs.Manifests.{job_words, seal_words}
use Rattle.report_splitter.proofs.EntryLemmas.{digits_apart}
use Rattle.report_splitter.proofs.SplitLemmas.{not_apart, same_split}

-- ---- no NUL in an entry

abbrev IsApart : ℕ → Type 0
IsApart byte = byte ≢ 0

number_apart : (number : ℕ) → number < 2 ^ 64 → All IsApart (decimal number)
number_apart number small = digits_apart number 0 small (omega arith)

joined : (front rest : List ℕ) → All IsApart front → All IsApart rest → All IsApart (front ++ (codes " " ++ rest))
joined front rest f r =
    All-append IsApart front (codes " " ++ rest) f (All-append IsApart (codes " ") rest (grind arith) r)

job_apart : (place : ℕ) (job : PackedText) → IsPackedText job → place < 2 ^ 64 → All IsApart (job_words place job)
unfolding job_words
job_apart place job t small = search (rules, joined, number_apart, t)

seal_apart : (seal : BatchSeal) → IsBatchSeal seal → All IsApart (seal_words seal)
unfolding seal_words
seal_apart seal t = search (rules, joined, number_apart, t)

pub batch_apart : (seal : BatchSeal) → IsBatchSeal seal → All IsApart (batch_words seal)
batch_apart seal t =
    All-append IsApart (codes "vjobs-manifest-2 ") (seal_words seal) (grind arith) (seal_apart seal t)

-- a manifest that is split at its first NUL
pub seal_first : (seal : BatchSeal) (jobs : List PackedText) (text entry entries : List ℕ) → IsBatchSeal seal
    → IsSplitAt 0 text entry entries → text ≡ batch_words seal ++ (0 ∷ job_entries 1 jobs)
    → (entry ≡ batch_words seal) × (entries ≡ job_entries 1 jobs)
seal_first seal jobs text entry entries t split is =
    same_split 0 entry entries (batch_words seal) (job_entries 1 jobs) split.before (batch_apart seal t)
    (sym split.parts ∙ is)

-- ---- what is read

-- ---- entries that are read

-- these jobs were read, and the rest is the entries of the others
pub record IsRead (done : List PackedText) (rest : List ℕ) (jobs : List PackedText) : Type 0 where
  pub more : List PackedText
  pub parts : jobs ≡ done ++ more
  pub rest_is : rest ≡ job_entries (length done + 1) more
  pub are : All IsPackedText more

pub read_none : (jobs : List PackedText) (text : List ℕ) → All IsPackedText jobs → text ≡ job_entries 1 jobs
    → IsRead [] text jobs
read_none jobs text are is = grind arith

-- the next of them
pub record IsNext (done : List PackedText) (entry after : List ℕ) (jobs : List PackedText) : Type 0 where
  pub job : PackedText
  pub is_packed : IsPackedText job
  pub fits : length done + 1 < 2 ^ 64
  pub entry_is : entry ≡ job_words (length done + 1) job
  pub read : IsRead (done ++ job ∷ []) after jobs

next_of : (done more jobs : List PackedText) (rest entry after : List ℕ) → length jobs < 2 ^ 64 → jobs ≡ done ++ more
    → rest ≡ job_entries (length done + 1) more → All IsPackedText more → IsSplitAt 0 rest entry after
    → IsNext done entry after jobs
next_of done [] jobs rest entry after small parts is are split =
    absurd (grind (arith, length-append entry (0 ∷ after)))
next_of done (job ∷ more) jobs rest entry after small parts is are split =
    let fits : length done + 1 < 2 ^ 64 = omega (arith, ap length parts, length-append done (job ∷ more)) in
    let t = All-head IsPackedText job more are in
    let same = same_split 0 entry after (job_words (length done + 1) job) (job_entries (length done + 1 + 1) more)
    split.before (job_apart (length done + 1) job t fits) in
    record {
      job = job;
      is_packed = t;
      fits = fits;
      entry_is = grind (arith, same);
      read = record {
        more = more;
        parts = rw append_assoc parts;
        rest_is = grind (arith, same, length-append done (job ∷ []));
        are = All-tail IsPackedText job more are;
      };
    }

pub next_read : (done jobs : List PackedText) (rest entry after : List ℕ) → length jobs < 2 ^ 64 → IsRead done rest jobs
    → IsSplitAt 0 rest entry after → IsNext done entry after jobs
next_read done jobs rest entry after small r split = search (rules, next_of)

-- no entry is left
pub record IsAll (done : List PackedText) (rest : List ℕ) (jobs : List PackedText) : Type 0 where
  pub rest_is : rest ≡ []
  pub jobs_are : done ≡ jobs

all_of : (done more jobs : List PackedText) (rest : List ℕ) → jobs ≡ done ++ more
    → rest ≡ job_entries (length done + 1) more → All IsApart rest → IsAll done rest jobs
all_of done [] jobs rest parts is other = grind (arith, append-nil)
all_of done (job ∷ more) jobs rest parts is other =
    absurd (not_apart 0 _ (job_words (length done + 1) job) _ other is)

pub all_read : (done jobs : List PackedText) (rest : List ℕ) → IsRead done rest jobs → All IsApart rest
    → IsAll done rest jobs
all_read done jobs rest r other = search (rules, all_of)
