-- References that a job releases, and a block that it places in their stead.
use Rattle.std.proofs.Common.{◌≡◌, ℕ, ◌+◌, ◌-◌, ◌<◌, ◌≤◌, List, length, sym, ◌∙◌, subst, arith}
use Rattle.std.specs.Prelude.{ℤ}
use Rattle.refcounts.specs.SharedState.{SharedState, empty_slot, slot_at, used_words, words_in, block_count, with_slot}
use Rattle.refcounts.specs.SharedState.{new_slot, state_after_releases, AreNamed}
use Rattle.refcounts.specs.Owners.{slots_seen_by, ChangesOnly}
use Rattle.refcounts.specs.Laws.{MakingChangesOnlyOwn, ReleasingChangesOnlyOwn, ReleasesOnlyFree}
use Rattle.reservations.specs.BookState as book
use Rattle.reservations.specs.Laws.{GrantedWordsAreThere}
use Rattle.job_memory.specs.JobBlocks.{JobBlocks, IsJob, AreOwn, grant_of, words_of, held_words, with_memory}
use Rattle.job_memory.specs.Inside.{IsBooked, blocks_by}
use Rattle.job_memory.proofs.Grants.{of_grants}
use Rattle.job_memory.proofs.Slots.{own_count, used_put}
use Rattle.job_memory.proofs.Booked.{own_words, booked_own}

-- what is known when references that a job releases free some words
pub record IsReleased (memory new : SharedState) (b : book.BookState) (job freed : ℕ) : Type 0 where
  pub is : book.IsJob b job
  pub changes : ChangesOnly job memory new
  pub sum : freed + used_words new ≡ used_words memory
  pub left : book.words_held_by b job ≡ freed + words_in (slots_seen_by job new)

pub released : ReleasingChangesOnlyOwn → (memory new : SharedState) (b : book.BookState) (blocks : JobBlocks)
    (job : ℕ) (ids : List ℕ) (freed : ℕ) → IsBooked memory b → IsJob blocks job → AreOwn job blocks ids
    → blocks_by memory b ≡ blocks → new ≡ state_after_releases memory ids
    → freed + used_words new ≡ used_words memory → IsReleased memory new b job freed
released releasing memory new b blocks job ids freed booked is_job own view new_is sum =
    let is : book.IsJob b job = (is_job.0, grind (arith, of_grants)) in
    let changes = subst (ChangesOnly job memory) (sym new_is)
    (releasing job memory ids (subst (λ (bs : JobBlocks). AreOwn job bs ids) (sym view) own)) in
    record {
      is = is;
      changes = changes;
      sum = sum;
      left = omega (arith, sum, own_words memory new b job booked is changes);
    }

pub named : (memory : SharedState) (b : book.BookState) (blocks : JobBlocks) (job : ℕ) (ids : List ℕ)
    → AreOwn job blocks ids → blocks_by memory b ≡ blocks → AreNamed memory ids
named memory b blocks job ids own view id = grind (arith, own id, own_count)

-- the book after the words that were freed are given back
pub booked_released : (memory new : SharedState) (b : book.BookState) (job freed : ℕ) → IsBooked memory b
    → IsReleased memory new b job freed → IsBooked new (book.with_held b job (book.words_held_by b job - freed))
booked_released memory new b job freed booked r =
    booked_own memory new b job _ booked r.is r.changes (omega (arith, r.sum, r.left))

-- A job places a block.
pub booked_placed : MakingChangesOnlyOwn → (memory : SharedState) (b : book.BookState) (job id len : ℕ)
    (words : List ℤ) → IsBooked memory b → book.IsJob b job → id < length memory.slots
    → slot_at memory id ≡ empty_slot → length words ≡ len
    → IsBooked (with_slot memory id (new_slot job words)) (book.with_held b job (book.words_held_by b job + len))
booked_placed making memory b job id len words booked is within empty long =
    booked_own memory _ b job _ booked is (making job memory id words within empty)
    (grind (arith, used_put memory id (new_slot job words) within))

-- what is known when a job places a block of n words in their stead
pub record IsExchange (memory new : SharedState) (b : book.BookState) (job freed n : ℕ) : Type 0 where
  pub released : IsReleased memory new b job freed
  pub granted : book.words_held_by b job - freed + n ≤ book.words_granted_to b job
  pub room : used_words new + n ≤ new.room
  pub numbers : block_count new < length new.slots

pub exchange : ReleasingChangesOnlyOwn → GrantedWordsAreThere → ReleasesOnlyFree → (memory new : SharedState)
    (b : book.BookState) (blocks : JobBlocks) (job : ℕ) (ids : List ℕ) (freed n : ℕ) → IsBooked memory b
    → book.IsCovered b → IsJob blocks job → AreOwn job blocks ids → block_count blocks.memory < length
    blocks.memory.slots → held_words job (with_memory blocks (state_after_releases blocks.memory ids)) + n ≤ words_of
    (grant_of blocks job) → blocks_by memory b ≡ blocks → new ≡ state_after_releases memory ids
    → freed + used_words new ≡ used_words memory → IsExchange memory new b job freed n
exchange releasing there only_free memory new b blocks job ids freed n booked covered is_job own numbers room view
    new_is
    sum =
    let r = released releasing memory new b blocks job ids freed booked is_job own view new_is sum in
    let fewer = only_free memory ids (named memory b blocks job ids own view) in
    let granted : words_in (slots_seen_by job new) + n ≤ book.words_granted_to b job = grind (arith, of_grants) in
    let rest = there b job (book.words_granted_to b job - book.words_held_by b job) covered r.is
    (omega (arith, covered.jobs job)) in
    record {
      released = r;
      granted = omega (arith, r.left, granted);
      room = omega (arith, rest, granted, r.left, sum, covered.jobs job, booked.used, booked.region, r.changes.room);
      numbers = grind (arith, fewer.1, r.changes.ids);
    }

pub booked_exchanged : MakingChangesOnlyOwn → (memory new : SharedState) (b : book.BookState) (job freed id : ℕ)
    (words : List ℤ) → IsBooked memory b → IsReleased memory new b job freed → id < length new.slots
    → slot_at new id ≡ empty_slot → IsBooked (with_slot new id (new_slot job words))
    (book.with_held b job (book.words_held_by b job - freed + length words))
booked_exchanged making memory new b job freed id words booked r within empty =
    let made = making job new id words within empty in
    let both : ChangesOnly job memory (with_slot new id (new_slot job words)) = record {
      balance = λ measure. omega (arith, r.changes.balance measure, made.balance measure);
      others = λ other ne. made.others other ne ∙ r.changes.others other ne;
      room = made.room ∙ r.changes.room;
      ids = made.ids ∙ r.changes.ids;
    } in
    booked_own memory _ b job _ booked r.is both
    (grind (arith, used_put new id (new_slot job words) within, r.sum, r.left))
