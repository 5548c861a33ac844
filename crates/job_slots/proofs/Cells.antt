-- What the cells of a job hold, and what the job sees of the memory.
use Rattle.std.proofs.Common.{rules, ◌≡◌, ◌+◌, ◌<◌, ℕ, cond, ltb, List, [], ◌∷◌, length, map, refl, sym, arith, ◌≢◌}
use Rattle.std.proofs.Common.{zero, suc, ◌≤◌, eqb, get_or, set, ◌∙◌, ap, inl, inr, ℤ}
use Rattle.std.specs.Prelude.{sum_by, All, reverse}
use Rattle.std.proofs.lemmas.List.Sums.{sum_by-cons, sum_by-set}
use Rattle.std.proofs.lemmas.Bool.{eq-eqb, cases_eq, cases_lt}
use Rattle.std.proofs.Math.ListN.{length-set}
use Rattle.refcounts.specs.SharedState.{Slot, empty_slot, SharedState, slot_in, slot_at, words_in, with_slot}
use Rattle.refcounts.specs.SharedState.{block_count, blocks_in, occurrences, IsTidy, new_slot, state_after_shares}
use Rattle.refcounts.specs.SharedState.{state_after_releases, AreLive, AreNamed, IsLive}
use Rattle.refcounts.specs.Owners.{slot_seen_by, slots_seen_by}
use Rattle.std.proofs.lemmas.Grind.{common_steps}
use Rattle.std.proofs.lemmas.Bool.Decides.{nat_tests}
use Rattle.std.proofs.lemmas.List.{get_or-map, get_or-set_other, length-map, get_or-set_same}
use Rattle.std.proofs.lemmas.List.Elements.{All-nil, All-head, All-tail, All-weaker, All-map, All-cons}
use Rattle.job_steps.specs.States.{has_tag, held_words, StackEntry, words_of}
use Rattle.job_slots.specs.Holdings.{Cell, ids_of, entries_of, AreAlike, AreHeld, HoldStack, HoldNothing, HoldSomeStack}
use Rattle.refcounts.specs.Laws.{SharesAreCounted, ReleasesAreCounted, ReleasesKeepBlocks}
use Rattle.job_memory.specs.JobBlocks.{JobBlocks, AreOwn, ChangesOnlyOf, own_slots, with_memory}
use Rattle.job_memory.specs.Laws.{ReleasesChangeOnlyTheirJob}
use Rattle.job_slots.proofs.Stacks.{named-reverse, times}
use Rattle.job_slots.specs.Commits.{with_releases}
use Rattle.job_slots.specs.Executions.{BlockLaws}

-- ======== a memory's slots as a job sees them

pub seen_none : (job : ℕ) → slot_seen_by job empty_slot ≡ empty_slot
seen_none job = grind arith

-- the slot of a number as the job sees it
pub seen_in : (job : ℕ) (slots : List Slot) (id : ℕ) →
    slot_in (map (slot_seen_by job) slots) id ≡ slot_seen_by job (slot_in slots id)
seen_in job [] id = sym (seen_none job)
seen_in job (slot ∷ slots) id = grind (arith, (seen_in job slots))

-- a block that the job has is there
pub seen_there : (job : ℕ) (memory : SharedState) (id : ℕ) → 0 < (slot_in (slots_seen_by job memory) id).count →
    slot_in (slots_seen_by job memory) id ≡ slot_at memory id
seen_there job memory id some = grind (arith, seen_in, slot_at)

-- ---- a new block

-- how many words of a slot the job sees
abbrev seen_words : ℕ → Slot → ℕ
seen_words job slot = length (slot_seen_by job slot).words

seen_sum : (job : ℕ) (slots : List Slot) → words_in (map (slot_seen_by job) slots) ≡ sum_by (seen_words job) slots
seen_sum job [] = refl
seen_sum job (slot ∷ slots) =
    omega (
      arith,
      sum_by-cons (λ (s : Slot). length s.words) (slot_seen_by job slot) (map (slot_seen_by job) slots),
      sum_by-cons (seen_words job) slot slots,
      seen_sum job slots,
    )

abbrev pub one_where_named : Slot → ℕ
one_where_named slot = cond (ltb 0 slot.count) 1 0

-- what a new block adds to a memory
pub record AddsBlock (job : ℕ) (memory : SharedState) (id words : ℕ) (slot : Slot) : Type 0 where
  pub held : words_in (slots_seen_by job (with_slot memory id slot)) ≡ words_in (slots_seen_by job memory) + words
  pub count : block_count (with_slot memory id slot) ≡ block_count memory + 1
  pub numbers : length (with_slot memory id slot).slots ≡ length memory.slots

pub adds_block : (job : ℕ) (memory : SharedState) (id : ℕ) (slot : Slot) → id < length memory.slots →
    slot_at memory id ≡ empty_slot → slot.owner ≡ job → slot.count ≡ 1 →
    AddsBlock job memory id (length slot.words) slot
adds_block job memory id slot within empty owner count = search (rules, eq-eqb, sum_by-set, seen_sum, length-set)

-- ======== how many words and blocks the cells of a stack hold

-- no cell holds the empty stack
pub none_held : (slots : List Slot) (ids : List ℕ) → HoldNothing slots ids → HoldStack slots ids []
none_held slots ids h = grind (arith, All-nil, slot_in)

-- ---- how often a block is named

pub named_cons : (id first : ℕ) (ids : List ℕ) →
    occurrences id (first ∷ ids) ≡ cond (eqb first id) 1 0 + occurrences id ids
named_cons id first ids = sum_by-cons (λ (other : ℕ). cond (eqb other id) 1 0) first ids

pub named_here : (id : ℕ) (ids : List ℕ) → occurrences id (id ∷ ids) ≡ occurrences id ids + 1
named_here id ids = grind (arith, common_steps, eq-eqb, named_cons)

pub named_other : (id first : ℕ) (ids : List ℕ) → first ≢ id → occurrences id (first ∷ ids) ≡ occurrences id ids
named_other id first ids ne = grind (arith, sum_by-cons)

pub named_sum : (id first : ℕ) (ids : List ℕ) →
    occurrences id (first ∷ ids) ≡ occurrences id (first ∷ []) + occurrences id ids
named_sum id first ids = omega (arith, named_cons id first ids, named_cons id first [])

pub named_more : (id first : ℕ) (ids : List ℕ) → occurrences id ids ≤ occurrences id (first ∷ ids)
named_more id first ids = omega (arith, named_cons id first ids)

-- each number of a list is listed
pub listed : (ids : List ℕ) → All (λ id. 0 < occurrences id ids) ids
listed [] k d below = absurd (omega (arith, below))
listed (first ∷ ids) zero d below = omega (arith, named_here first ids)
listed (first ∷ ids) (suc k) d below =
    omega (arith, listed ids k d (omega (arith, below)), named_more (get_or ids k d) first ids)

pub each_named : (cells : List Cell) → All (λ c. 0 < occurrences c.id (ids_of cells)) cells
each_named cells k d below =
    rw (← get_or-map (λ (c : Cell). c.id) cells k d d.id below)
    (listed (ids_of cells) k d.id (omega (arith, length-map cells (λ (c : Cell). c.id), below)))

-- a block is named by some cell exactly if its tag is that of some entry
named_by_tag : (c : Cell) (cells : List Cell) → All (AreAlike c) cells →
    has_tag c.entry.tag (entries_of cells) ≡ ltb 0 (occurrences c.id (ids_of cells))
named_by_tag c [] alike = refl
named_by_tag c (x ∷ xs) alike =
    let head : AreAlike c x = All-head (AreAlike c) x xs alike in
    let later = named_by_tag c xs (All-tail (AreAlike c) x xs alike) in
    let step : occurrences c.id (ids_of (x ∷ xs)) ≡ cond (eqb x.id c.id) 1 0 + occurrences c.id (ids_of xs) =
    named_cons c.id x.id (ids_of xs) in
    grind (arith, nat_tests)

-- ---- sums over slots

-- a measure of slots that no empty slot has
abbrev pub IsMeasure : (Slot → ℕ) → Type 0
IsMeasure measure = ◌≡◌ {A = ℕ} (measure empty_slot) 0

sum_none : (measure : Slot → ℕ) (slots : List Slot) → ((id : ℕ) → ◌≡◌ {A = ℕ} (measure (slot_in slots id)) 0) →
    sum_by measure slots ≡ 0
sum_none measure [] none = refl
sum_none measure (slot ∷ slots) none =
    omega (arith, sum_by-cons measure slot slots, none 0, sum_none measure slots (λ id. none (suc id)))

-- without the block of a number
pub sum_without : (measure : Slot → ℕ) → IsMeasure measure → (slots : List Slot) (id : ℕ) →
    sum_by measure (set slots id empty_slot) + measure (slot_in slots id) ≡ sum_by measure slots
sum_without measure zero_is [] id = omega (arith, zero_is)
sum_without measure zero_is (slot ∷ slots) id = grind (arith, sum_by-cons, (sum_without measure zero_is slots))

gone : (slots : List Slot) (id : ℕ) → slot_in (set slots id empty_slot) id ≡ empty_slot
gone [] id = refl
gone (slot ∷ slots) id = grind (arith, (gone slots))

-- a block that cells don't name measures nothing
abbrev pub AreOnlyOf : (Slot → ℕ) → List Slot → List Cell → Type 0
AreOnlyOf measure slots cells =
    (id : ℕ) → occurrences id (ids_of cells) ≡ 0 → ◌≡◌ {A = ℕ} (measure (slot_in slots id)) 0

only_without : (measure : Slot → ℕ) → IsMeasure measure → (slots : List Slot) (c : Cell) (cells : List Cell) →
    AreOnlyOf measure slots (c ∷ cells) → AreOnlyOf measure (set slots c.id empty_slot) cells
only_without measure zero_is slots c cells only id none =
    grind (arith, cases_eq, slot_in, gone, get_or-set_other, named_other)

only_again : (measure : Slot → ℕ) (slots : List Slot) (c : Cell) (cells : List Cell) →
    0 < occurrences c.id (ids_of cells) → AreOnlyOf measure slots (c ∷ cells) → AreOnlyOf measure slots cells
only_again measure slots c cells more only id none = grind (arith, cases_eq, named_other)

-- ---- the words

abbrev long : Slot → ℕ
long slot = length slot.words

-- a cell's block is as long as its entry
abbrev IsLong : List Slot → Cell → Type 0
IsLong slots c = ◌≡◌ {A = ℕ} (long (slot_in slots c.id)) (length c.entry.value.words)

long_without : (slots : List Slot) (id : ℕ) (cells : List Cell) → occurrences id (ids_of cells) ≡ 0 →
    All (IsLong slots) cells → All (IsLong (set slots id empty_slot)) cells
long_without slots id cells none words k d below =
    let named = each_named cells k d below in
    let same = words k d below in
    grind (arith, cases_eq, get_or-set_other)

abbrev AreTagged : List Cell → Type 0
AreTagged cells = All (λ x. All (AreAlike x) cells) cells

held_from : (cells : List Cell) (slots : List Slot) → AreTagged cells → All (IsLong slots) cells →
    AreOnlyOf long slots cells → sum_by long slots ≡ held_words (entries_of cells)
held_from [] slots tagged words only = sum_none long slots (λ id. only id refl)
held_from (c ∷ cells) slots tagged words only =
    let later : AreTagged cells = λ k d below i e lt.
    tagged (suc k) d (omega (arith, below)) (suc i) e (omega (arith, lt)) in
    let shown = named_by_tag c cells (All-tail (AreAlike c) c cells (tagged 0 c (omega arith))) in
    elim (cases_lt 0 (occurrences c.id (ids_of cells))) [
      | inl some ↦ (
          let rest = held_from cells slots later (All-tail (IsLong slots) c cells words)
          (only_again long slots c cells some only) in
          grind (arith, nat_tests)
          )
      | inr none ↦ (
          let rest = held_from cells (set slots c.id empty_slot) later
          (long_without slots c.id cells (omega (arith, none)) (All-tail (IsLong slots) c cells words))
          (only_without long refl slots c cells only) in
          let here = All-head (IsLong slots) c cells words in
          let without = sum_without long refl slots c.id in
          grind (arith, nat_tests)
          )
    ]

-- no reference, no block
abbrev pub AreTidy : List Slot → Type 0
AreTidy slots = (id : ℕ) → (slot_in slots id).count ≡ 0 → slot_in slots id ≡ empty_slot

-- the blocks of cells have the words of the stack that the cells hold
pub held_is_stack : (slots : List Slot) (cells : List Cell) → AreHeld slots cells → AreTidy slots →
    words_in slots ≡ held_words (entries_of cells)
held_is_stack slots cells held tidy = grind (arith, held_from, All-weaker, slot_in, IsLong, long)

-- ---- the blocks

few_from : (cells : List Cell) (slots : List Slot) → AreOnlyOf one_where_named slots cells →
    sum_by one_where_named slots ≤ length cells
few_from [] slots only = omega (arith, sum_none one_where_named slots (λ id. only id refl))
few_from (c ∷ cells) slots only =
    let rest = few_from cells (set slots c.id empty_slot) (only_without one_where_named refl slots c cells only) in
    grind (arith, nat_tests, one_where_named, only_without, sum_without, rest)

-- there are no more blocks than cells
pub few_blocks : (slots : List Slot) (cells : List Cell) → AreHeld slots cells → blocks_in slots ≤ length cells
few_blocks slots cells held =
    few_from cells slots (λ id none. ap (λ (n : ℕ). let m : ℕ = cond (ltb 0 n) 1 0 in m) (held.counts id ∙ none))

-- ---- a job's own blocks

-- a job's own blocks are tidy if the memory is
pub own_are_tidy : (job : ℕ) (memory : SharedState) → IsTidy memory → AreTidy (slots_seen_by job memory)
own_are_tidy job memory tidy id none = grind (arith, seen_in, slot_at)

-- ---- no block

pub words_of_none : (slots : List Slot) → ((id : ℕ) → slot_in slots id ≡ empty_slot) → words_in slots ≡ 0
words_of_none slots none = sum_none long slots (λ id. ap long (none id))

pub blocks_of_none : (slots : List Slot) → ((id : ℕ) → slot_in slots id ≡ empty_slot) → blocks_in slots ≡ 0
blocks_of_none slots none = sum_none one_where_named slots (λ id. ap one_where_named (none id))

-- ======== what a job sees of a memory after it placed a block, and after references were shared or released

-- ---- one slot

seen_own : (job : ℕ) (slot : Slot) → slot.owner ≡ job → slot_seen_by job slot ≡ slot
seen_own job slot is = grind (arith, nat_tests)

seen_count : (job : ℕ) (slot : Slot) → (slot_seen_by job slot).count ≤ slot.count
seen_count job slot = grind (arith, nat_tests)

-- `n` references less
pub record IsLess (taken : ℕ) (old new : Slot) : Type 0 where
  pub count : new.count + taken ≡ old.count
  pub words : taken < old.count → new.words ≡ old.words

-- `n` references more
pub record IsMore (more : ℕ) (old new : Slot) : Type 0 where
  pub count : new.count ≡ old.count + more
  pub words : new.words ≡ old.words

abbrev IsKept : Slot → Slot → Type 0
IsKept old new = (new.owner ≡ old.owner) × (new.words ≡ old.words)

same_count : (s t : Slot) → s ≡ t → s.count ≡ t.count
same_count s t e = ap (λ (x : Slot). x.count) e

same_words : (s t : Slot) → s ≡ t → s.words ≡ t.words
same_words s t e = ap (λ (x : Slot). x.words) e

seen_less : (job taken : ℕ) (old new : Slot) → taken ≤ (slot_seen_by job old).count → new.count + taken ≡ old.count →
    (taken < old.count → IsKept old new) → IsLess taken (slot_seen_by job old) (slot_seen_by job new)
seen_less job taken old new few counted kept =
    grind (arith, cases_eq, seen_own, same_count, cases_lt, same_words, seen_count)

-- ---- the slot of a number

-- the slot of a number as the job sees it
abbrev pub own_slot : ℕ → SharedState → ℕ → Slot
own_slot job memory id = slot_in (slots_seen_by job memory) id

pub seen_at : (job : ℕ) (memory : SharedState) (id : ℕ) → own_slot job memory id ≡ slot_seen_by job (slot_at memory id)
seen_at job memory id = seen_in job memory.slots id

pub own_count : (job : ℕ) (memory : SharedState) (id : ℕ) → (own_slot job memory id).count ≤ (slot_at memory id).count
own_count job memory id = grind (arith, same_count, own_slot, slot_at, seen_at, seen_count)

-- a block that was placed, and the others
pub placed_here : (job : ℕ) (memory : SharedState) (id : ℕ) (words : List ℤ) → id < length memory.slots →
    own_slot job (with_slot memory id (new_slot job words)) id ≡ new_slot job words
placed_here job memory id words within = grind (arith, seen_in, get_or-set_same, nat_tests)

pub placed_there : (job : ℕ) (memory : SharedState) (id other : ℕ) (words : List ℤ) → other ≢ id →
    own_slot job (with_slot memory id (new_slot job words)) other ≡ own_slot job memory other
placed_there job memory id other words ne = grind (arith, seen_in, get_or-set_other)

pub none_here : (job : ℕ) (memory : SharedState) (id : ℕ) → slot_at memory id ≡ empty_slot →
    (own_slot job memory id).count ≡ 0
none_here job memory id empty = grind (arith, same_count, own_slot, seen_at, seen_none)

-- references that the job releases, and those that it shares
pub released_at : ReleasesAreCounted → ReleasesKeepBlocks → (job : ℕ) (memory : SharedState) (ids : List ℕ) →
    ((id : ℕ) → occurrences id ids ≤ (own_slot job memory id).count) → (id : ℕ) →
    IsLess (occurrences id ids) (own_slot job memory id) (own_slot job (state_after_releases memory ids) id)
released_at counted kept job memory ids own id =
    let named : AreNamed memory ids = λ k. omega (arith, own k, own_count job memory k) in
    let few = rw seen_at at (own id) in
    rw (seen_at, seen_at) (seen_less _ _ _ _ few (counted memory ids id named) (kept memory ids id named))

pub shared_at : SharesAreCounted → (job : ℕ) (memory : SharedState) (ids : List ℕ) → AreLive memory ids → (id : ℕ) →
    occurrences id ids ≤ (own_slot job memory id).count →
    IsMore (occurrences id ids) (own_slot job memory id) (own_slot job (state_after_shares memory ids) id)
shared_at counted job memory ids live id own = search (rules, seen_in, cases_eq)

-- ======== what is left of a job's blocks once all its cells are let go

-- the cells, as they are released from the bottom up, name each block as often as its count says
named_exactly : (job : ℕ) (blocks : JobBlocks) (ids gone : List ℕ) → HoldSomeStack (own_slots job blocks) ids →
    gone ≡ reverse ids → (id : ℕ) → (slot_in (own_slots job blocks) id).count ≡ occurrences id gone
named_exactly job blocks ids gone (stack, h) is id = rw (is, named-reverse id ids, h.ids_are) (h.held.counts id)

pub own_named : (job : ℕ) (memory : SharedState) (ids : List ℕ) →
    ((id : ℕ) → occurrences id ids ≤ (slot_in (slots_seen_by job memory) id).count) → AreNamed memory ids
own_named job memory ids own id = omega (arith, own id, own_count job memory id)

-- they name blocks of the job alone
pub own_released : (job : ℕ) (blocks : JobBlocks) (ids gone : List ℕ) → HoldSomeStack (own_slots job blocks) ids →
    gone ≡ reverse ids → AreOwn job blocks gone
own_released job blocks ids gone h is id = omega (arith, named_exactly job blocks ids gone h is id)

-- the job has let go of all its cells, and nothing else changed
pub record HasLetGo (job : ℕ) (old new : JobBlocks) : Type 0 where
  pub nothing : HoldNothing (own_slots job new) []
  pub others : ChangesOnlyOf job old new
  pub grants : new.grants ≡ old.grants

pub has_let_go : ReleasesAreCounted → ReleasesKeepBlocks → ReleasesChangeOnlyTheirJob →
    (job : ℕ) (old new : JobBlocks) (ids gone : List ℕ) → HoldSomeStack (own_slots job old) ids → gone ≡ reverse ids →
    new ≡ with_memory old (state_after_releases old.memory gone) → IsTidy new.memory → HasLetGo job old new
has_let_go counted kept only job old new ids gone h gone_is new_is tidy =
    let own = own_released job old ids gone h gone_is in
    let none : (id : ℕ) → (slot_in (own_slots job new) id).count ≡ 0 = rw new_is (λ id. omega (
      arith,
      named_exactly job old ids gone h gone_is id,
      (released_at counted kept job old.memory gone own id).count,
    )) in
    record {
      nothing = record { no_cell = refl; no_block = λ id. own_are_tidy job new.memory tidy id (none id) };
      others = rw new_is (only old job gone own);
      grants = ap (λ (b : JobBlocks). b.grants) new_is;
    }

-- ======== what holds of the blocks that hold a stack

-- the cell's block is there, with the words of its entry
abbrev pub IsThere : SharedState → Cell → Type 0
IsThere memory c = IsLive memory c.id × ((slot_at memory c.id).words ≡ c.entry.value.words)

pub each_there : (job : ℕ) (memory : SharedState) (cells : List Cell) → AreHeld (slots_seen_by job memory) cells →
    All (IsThere memory) cells
each_there job memory cells held k d below =
    let id = (get_or cells k d).id in
    let there = seen_there job memory id (omega (arith, each_named cells k d below, held.counts id)) in
    let count = ap (λ (s : Slot). s.count) there in
    let words = ap (λ (s : Slot). s.words) (sym there) ∙ held.words k d below in
    (omega (arith, each_named cells k d below, held.counts id, count), words)

-- the blocks of cells that hold entries are there, with the entries' words
pub record AreThere (memory : SharedState) (ids : List ℕ) (stack : List StackEntry) : Type 0 where
  pub live : AreLive memory ids
  pub lists : map (λ id. (slot_at memory id).words) ids ≡ words_of stack

lists_of : (memory : SharedState) (cells : List Cell) → All (IsThere memory) cells →
    map (λ id. (slot_at memory id).words) (ids_of cells) ≡ words_of (entries_of cells)
lists_of memory [] there = refl
lists_of memory (c ∷ cells) there =
    cc ((there 0 c (omega arith)).1, lists_of memory cells (λ k d below. there (suc k) d (omega (arith, below))))

pub are_there : (job : ℕ) (memory : SharedState) (ids : List ℕ) (stack : List StackEntry) →
    HoldStack (slots_seen_by job memory) ids stack → AreThere memory ids stack
are_there job memory ids stack h =
    let there = each_there job memory h.cells h.held in
    rw (h.ids_are, h.entries_are) (record {
      live = All-map (λ id. IsLive memory id) (λ (c : Cell). c.id) h.cells (λ k d below. (there k d below).0);
      lists = lists_of memory h.cells there;
    })

-- ======== cells that still hold a stack after a block was placed, and after references were shared or released

-- the words of a cell's block are its entry's
abbrev HasWords : List Slot → Cell → Type 0
HasWords slots c = (slot_in slots c.id).words ≡ c.entry.value.words

-- what holds of each cell of the one list holds of each of the other
abbrev pub Among : List Cell → List Cell → Type 1
Among part whole = (P : Cell → Type 0) → All P whole → All P part

-- a cell is alike with each of these
abbrev IsAlike : List Cell → Cell → Type 0
IsAlike cells x = All (AreAlike x) cells

alike_among : (part whole : List Cell) → Among part whole → All (IsAlike whole) whole → All (IsAlike part) part
alike_among part whole among alike =
    among (IsAlike part) (λ k d below. among (AreAlike (get_or whole k d)) (alike k d below))

-- ---- one block more

differ : (x y : Cell) → x.id ≢ y.id → x.entry.tag ≢ y.entry.tag → AreAlike x y
differ x y ids tags = (λ e. absurd (ids e), λ e. absurd (tags e))

module _ (job : ℕ) (old : SharedState) (c : Cell) (cells : List Cell) (within : c.id < length old.slots)
    (empty : slot_at old c.id ≡ empty_slot) (held : AreHeld (slots_seen_by job old) cells)
    (later : All (λ (x : Cell). x.entry.tag < c.entry.tag) cells) where
  abbrev new : List Slot
  new = slots_seen_by job (with_slot old c.id (new_slot job c.entry.value.words))

  unnamed : times c.id cells ≡ 0
  unnamed = omega (arith, none_here job old c.id empty, held.counts c.id)

  apart : All (λ (x : Cell). x.id ≢ c.id) cells
  apart k d below e = absurd (omega (arith, unnamed, rw e at (each_named cells k d below)))

  words : All (HasWords new) cells
  words k d below = grind (arith, common_steps, placed_there, apart)

  counts : (id : ℕ) → (slot_in new id).count ≡ occurrences id (c.id ∷ ids_of cells)
  counts id = grind (arith, common_steps, named_cons, cases_eq, placed_here, unnamed, placed_there, named_here)

  alike_after : All (AreAlike c) cells
  alike_after k d below = grind (arith, common_steps, differ, apart)

  alike_before : All (λ x. AreAlike x c) cells
  alike_before k d below = grind (arith, common_steps, differ, apart)

  -- a new block, whose entry's tag is newer than all others
  pub placed_one : AreHeld (slots_seen_by job (with_slot old c.id (new_slot job c.entry.value.words))) (c ∷ cells)
  placed_one = grind (arith, common_steps, words, All-cons, placed_here, counts, alike_after, alike_before)

-- ---- references less, and more

-- these cells hold a stack, and only the job's blocks changed
pub record IsPlaced (job : ℕ) (old placed : JobBlocks) (whole : List Cell) : Type 0 where
  pub held : AreHeld (own_slots job placed) whole
  pub others : ChangesOnlyOf job old placed

-- these cells hold a stack after the blocks of these numbers are released
pub record IsReleased (job : ℕ) (old placed : JobBlocks) (ids : List ℕ) (kept : List Cell) : Type 0 where
  pub own : AreOwn job placed ids
  pub held : AreHeld (own_slots job (with_releases ids placed)) kept
  pub others : ChangesOnlyOf job old (with_releases ids placed)

-- so do these after the blocks of these numbers are shared
pub record IsShared (job : ℕ) (old placed : JobBlocks) (ids : List ℕ) (new : List Cell) : Type 0 where
  pub live : AreLive placed.memory ids
  pub held : AreHeld (own_slots job (with_memory placed (state_after_shares placed.memory ids))) new
  pub others : ChangesOnlyOf job old (with_memory placed (state_after_shares placed.memory ids))

module _ (laws : BlockLaws) (job : ℕ) (old placed : JobBlocks) (whole : List Cell) (is : IsPlaced job old placed whole)
  where
    -- the cells that are left hold theirs after the blocks of the others are released
    pub released : (kept taken : List Cell) → Among kept whole →
        ((id : ℕ) → times id kept + times id taken ≡ times id whole) → IsReleased job old placed (ids_of taken) kept
    released kept taken among split =
        let own : AreOwn job placed (ids_of taken) = λ id. omega (arith, split id, is.held.counts id) in
        let less = released_at laws.releases_are_counted laws.releases_keep_blocks job placed.memory (ids_of taken) own
        in
        record {
          own = own;
          held = record {
            words = λ k d below. let c = get_or kept k d in
                (less c.id).words (omega (arith, each_named kept k d below, split c.id, is.held.counts c.id))
                ∙ among (HasWords (own_slots job placed)) is.held.words k d below;
            counts = λ id. omega (arith, (less id).count, split id, is.held.counts id);
            alike = alike_among kept whole among is.held.alike;
          };
          others = (laws.changes_join job).both old placed _ is.others
              (laws.releases_change_only_their_job placed job (ids_of taken) own);
        }

    -- so do the cells of copies and what is copied, after the blocks of the copies are shared
    pub shared : (new more : List Cell) → Among new whole → ((id : ℕ) → times id more ≤ times id whole) →
        ((id : ℕ) → times id new ≡ times id whole + times id more) → IsShared job old placed (ids_of more) new
    shared new more among few sum =
        let own : All (λ id. 0 < (slot_in (own_slots job placed) id).count) (ids_of more) = λ k d below.
        let id = get_or (ids_of more) k d in
        omega (arith, listed (ids_of more) k d below, few id, is.held.counts id) in
        let live : AreLive placed.memory (ids_of more) = λ k d below.
        omega (arith, own k d below, own_count job placed.memory (get_or (ids_of more) k d)) in
        let shares = (λ (id : ℕ). shared_at laws.shares_are_counted job placed.memory (ids_of more) live id
        (omega (arith, few id, is.held.counts id))) in
        record {
          live = live;
          held = record {
            words = λ k d below. (shares (get_or new k d).id).words
                ∙ among (HasWords (own_slots job placed)) is.held.words k d below;
            counts = λ id. omega (arith, (shares id).count, sum id, is.held.counts id);
            alike = alike_among new whole among is.held.alike;
          };
          others = (laws.changes_join job).both old placed _ is.others
              (laws.shares_change_only_their_job placed job (ids_of more) own);
        }
