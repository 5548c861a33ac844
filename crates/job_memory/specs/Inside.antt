-- How counted blocks and a book of reservations form the blocks of jobs.
use Rattle.std.specs.Prelude.{◌≡◌, ℕ, map, Option, Some, None}
use Rattle.refcounts.specs.SharedState.{SharedState, used_words, words_in}
use Rattle.refcounts.specs.Owners.{slots_seen_by}
use Rattle.reservations.specs.declared.Grant.{Grant}
use Rattle.reservations.specs.BookState as book
use Rattle.job_memory.specs.JobBlocks.{JobBlocks}

-- the words of a grant
abbrev pub grant_words : Option Grant → Option ℕ
grant_words None = None
grant_words (Some grant) = Some grant.words

abbrev pub blocks_by : SharedState → book.BookState → JobBlocks
blocks_by memory b = record { memory = memory; grants = map grant_words b.grants }

-- the book knows the region, and what each job holds is what its blocks have
pub record IsBooked (memory : SharedState) (b : book.BookState) : Type 0 where
  pub region : b.region ≡ memory.room
  pub used : used_words memory ≡ book.held_words b
  pub held : (job : ℕ) → book.IsJob b job → book.words_held_by b job ≡ words_in (slots_seen_by job memory)
