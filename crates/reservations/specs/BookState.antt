-- What a book of reservations says: how many words there are to grant, and which grant each job has.
use Rattle.std.specs.Prelude.{ℕ, ◌-◌, ◌≤◌, List, length, sum_by, slice_index_or, slice_set, Option, Some, None}
use Rattle.reservations.specs.declared.Grant.{Grant}

-- a book: the words of the region, and at each job's place its grant or none; job 1 has the first place
pub record BookState : Type 0 where
  pub region : ℕ
  pub grants : List (Option Grant)

-- the number is that of a job
abbrev pub IsJob : BookState → ℕ → Type 0
IsJob book job = (1 ≤ job) × (job ≤ length book.grants)

-- the grant of a job
abbrev pub grant_of : BookState → ℕ → Option Grant
grant_of book job = slice_index_or book.grants (job - 1) None

-- the words of a grant, and those of them that are held; 0 without a grant
abbrev pub words_of : Option Grant → ℕ
words_of None = 0
words_of (Some grant) = grant.words

abbrev pub held_of : Option Grant → ℕ
held_of None = 0
held_of (Some grant) = grant.held

-- the words that are granted to a job, and those of them that it holds
abbrev pub words_granted_to : BookState → ℕ → ℕ
words_granted_to book job = words_of (grant_of book job)

abbrev pub words_held_by : BookState → ℕ → ℕ
words_held_by book job = held_of (grant_of book job)

-- the words that are granted to all jobs together, and those of them that they hold
abbrev pub granted_words : BookState → ℕ
granted_words book = sum_by words_of book.grants

abbrev pub held_words : BookState → ℕ
held_words book = sum_by held_of book.grants

-- no job holds more than its grant, and all grants together are at most the region
pub record IsCovered (book : BookState) : Type 0 where
  pub jobs : (job : ℕ) → words_held_by book job ≤ words_granted_to book job
  pub region : granted_words book ≤ book.region

-- the book with this grant of a job, and every other grant as it was
abbrev pub with_grant : BookState → ℕ → Option Grant → BookState
with_grant book job grant = record { region = book.region; grants = slice_set book.grants (job - 1) grant }

-- a new grant, of which no word is held
abbrev pub new_grant : ℕ → Grant
new_grant words = record { words = words; held = 0 }

-- the book after a job holds this number of its words
abbrev pub with_held : BookState → ℕ → ℕ → BookState
with_held book job held = with_grant book job (Some (record { words = words_granted_to book job; held = held }))
