-- What the book says stays what the blocks have.
use Rattle.std.proofs.Common.{◌≡◌, ℕ, ◌+◌, ◌-◌, length, sym, ◌∙◌, arith}
use Rattle.std.specs.Prelude.{Option, None, replicate}
use Rattle.std.proofs.lemmas.Bool.Decides.{nat_tests}
use Rattle.std.proofs.lemmas.List.{get_or-set_other, length-set, get_or-replicate, length-replicate}
use Rattle.std.proofs.lemmas.List.Folds.{sum_by-replicate}
use Rattle.std.proofs.lemmas.List.Sums.{sum_by-set}
use Rattle.std.proofs.lemmas.Grind.{get_or-set_at}
use Rattle.refcounts.specs.SharedState.{Slot, empty_slot, SharedState, slot_at, used_words, words_in, with_slot, IsLive}
use Rattle.refcounts.specs.Owners.{slots_seen_by, ChangesOnly}
use Rattle.reservations.specs.declared.Grant.{Grant}
use Rattle.reservations.specs.BookState as book
use Rattle.job_memory.specs.Inside.{IsBooked}
use Rattle.job_memory.proofs.Slots.{held_put, used_put, no_slots_seen, live_within}

-- the words of all blocks rise and fall as those of the job's own do
pub own_words : (memory new : SharedState) (b : book.BookState) (job : ℕ) → IsBooked memory b → book.IsJob b job
    → ChangesOnly job memory new
    → used_words new + book.words_held_by b job ≡ used_words memory + words_in (slots_seen_by job new)
own_words memory new b job booked is changes =
    omega (arith, changes.balance (λ (slot : Slot). length slot.words), booked.held job is)

-- A job's own blocks change, and its grant with them.
pub booked_own : (memory new : SharedState) (b : book.BookState) (job : ℕ) (grant : Option Grant)
    → IsBooked memory b → book.IsJob b job → ChangesOnly job memory new
    → used_words new + book.words_held_by b job ≡ used_words memory + book.held_of grant
    → IsBooked new (book.with_grant b job grant)
booked_own memory new b job grant booked is changes sum =
    let words = own_words memory new b job booked is changes in
    let held = sum_by-set book.held_of b.grants (job - 1) grant None (omega (arith, is.0, is.1)) in
    record {
      region = booked.region ∙ sym changes.room;
      used = omega (arith, held, sum, booked.used);
      held = λ other is_other. grind (
        arith,
        get_or-set_at,
        get_or-set_other,
        length-set,
        changes.others other,
        booked.held other,
      );
    }

-- A block has another count, or other words of the same number.
pub booked_slot : (memory : SharedState) (b : book.BookState) (id : ℕ) (slot : Slot) → IsBooked memory b
    → IsLive memory id → slot.owner ≡ (slot_at memory id).owner → length slot.words ≡ length (slot_at memory id).words
    → IsBooked (with_slot memory id slot) b
booked_slot memory b id slot booked live owner same =
    let within = live_within memory.slots id live in
    record {
      region = booked.region;
      used = omega (arith, used_put memory id slot within, booked.used, same);
      held = λ job is. grind (arith, nat_tests, held_put job memory id slot within, booked.held job is);
    }

abbrev no_grant : Option Grant
no_grant = None

-- No job has a grant, and no number has a block.
pub booked_first : (room region jobs numbers : ℕ) → region ≡ room
    → IsBooked (record { room = room; slots = replicate numbers empty_slot })
    (record { region = region; grants = replicate jobs None })
booked_first room region jobs numbers same =
    let none = sum_by-replicate (λ (s : Slot). length s.words) numbers empty_slot in
    record {
      region = same;
      used = omega (arith, none, sum_by-replicate book.held_of jobs no_grant);
      held = λ job is. grind (arith, length-replicate, get_or-replicate, no_slots_seen);
    }
