-- The laws of books of reservations, as the public module `laws` promises them.
use Rattle.std.specs.Prelude.{◌≡◌, ◌≢◌, ℕ, ◌+◌, ◌≤◌, Option, None, replicate}
use Rattle.reservations.specs.declared.Grant.{Grant}
use Rattle.reservations.specs.BookState.{BookState, IsJob, grant_of, words_of, held_of, words_granted_to, words_held_by}
use Rattle.reservations.specs.BookState.{granted_words, held_words, IsCovered, with_grant}

-- a book without a grant: nothing is granted, and nothing is held
abbrev pub NothingIsGrantedAtFirst : Type 0
NothingIsGrantedAtFirst = (region jobs : ℕ)
    → let book : BookState = record { region = region; grants = replicate jobs None } in
    (granted_words book ≡ 0) × (held_words book ≡ 0) × ((job : ℕ) → grant_of book job ≡ None)

-- what all jobs hold together is at most what is granted to them
abbrev pub HeldIsWithinGranted : Type 0
HeldIsWithinGranted = (book : BookState) → IsCovered book → held_words book ≤ granted_words book

-- words that a job may still hold by its grant are in the region beside all that is held, by whomever
abbrev pub GrantedWordsAreThere : Type 0
GrantedWordsAreThere = (book : BookState) (job n : ℕ) → IsCovered book → IsJob book job
    → words_held_by book job + n ≤ words_granted_to book job → held_words book + n ≤ book.region

-- a change of one job's grant is one of that grant alone
abbrev pub OneGrantChanges : Type 0
OneGrantChanges = (book : BookState) (job : ℕ) (grant : Option Grant) → IsJob book job
    → (grant_of (with_grant book job grant) job ≡ grant)
    × ((other : ℕ) → 1 ≤ other → other ≢ job → grant_of (with_grant book job grant) other ≡ grant_of book other)

-- the sums change by what the job's grant changes by
abbrev pub GrantedAddsUp : Type 0
GrantedAddsUp = (book : BookState) (job : ℕ) (grant : Option Grant) → IsJob book job
    → granted_words (with_grant book job grant) + words_granted_to book job ≡ granted_words book + words_of grant

abbrev pub HeldAddsUp : Type 0
HeldAddsUp = (book : BookState) (job : ℕ) (grant : Option Grant) → IsJob book job
    → held_words (with_grant book job grant) + words_held_by book job ≡ held_words book + held_of grant

-- a grant that is closed gives its words back to the region
abbrev pub ClosingGivesBack : Type 0
ClosingGivesBack = (book : BookState) (job : ℕ) → IsJob book job
    → granted_words (with_grant book job None) + words_granted_to book job ≡ granted_words book
