-- What lists of references to blocks that are shared, or released, leave at each block number.
use Rattle.std.proofs.Common.{◌≡◌, ℕ, ◌+◌, ◌<◌, ◌≤◌, cond, eqb, List, [], ◌∷◌, length, refl, ◌∙◌, arith, suc}
use Rattle.std.proofs.lemmas.Bool.Decides.{nat_tests}
use Rattle.std.proofs.lemmas.List.{get_or-set_other, get_or_past}
use Rattle.std.proofs.lemmas.List.Sums.{sum_by-cons}
use Rattle.std.proofs.lemmas.Grind.{get_or-set_at}
use Rattle.refcounts.specs.SharedState.{Slot, SharedState, slot_in, slot_at, IsLive, state_after_share}
use Rattle.refcounts.specs.SharedState.{state_after_release, occurrences, AreNamed}
use Rattle.refcounts.specs.Laws.{SharesAreCounted, ReleasesAreCounted, ReleasesKeepBlocks, ReleaseStaysTidy}

-- a block that is there is within
pub live_within : (slots : List Slot) (id : ℕ) → 0 < (slot_in slots id).count → id < length slots
live_within slots id live = grind (arith, get_or_past)

-- what is known of the slots when one is put
pub ruleset put = (nat_tests, live_within, get_or-set_at, get_or-set_other)

-- how often a number is listed
pub listed : (id first : ℕ) (ids : List ℕ)
    → occurrences id (first ∷ ids) ≡ cond (eqb first id) 1 0 + occurrences id ids
listed id first ids = sum_by-cons (λ other. cond (eqb other id) 1 0) first ids

-- Blocks that are shared one by one: each has as many references more as it is listed.
live_shared : (memory : SharedState) (first id : ℕ) → IsLive memory first → IsLive memory id
    → IsLive (state_after_share memory first) id
live_shared memory first id live live_id = grind (arith, put)

shared_step : (memory : SharedState) (first : ℕ) (ids : List ℕ) (id : ℕ) (slot : Slot) → IsLive memory first
    → slot ≡ record {
      owner = (slot_at (state_after_share memory first) id).owner;
      count = (slot_at (state_after_share memory first) id).count + occurrences id ids;
      words = (slot_at (state_after_share memory first) id).words;
    }
    → slot ≡ record {
      owner = (slot_at memory id).owner;
      count = (slot_at memory id).count + occurrences id (first ∷ ids);
      words = (slot_at memory id).words;
    }
shared_step memory first ids id slot live is = grind (arith, put, listed id first ids)

pub shares_counted : SharesAreCounted
shares_counted memory [] id live = grind arith
shares_counted memory (first ∷ ids) id live =
    shared_step memory first ids id _ (live 0 0 (omega arith))
    (shares_counted (state_after_share memory first) ids id
    (λ k d within. live_shared memory first _ (live 0 d (omega arith)) (live (suc k) d (omega arith))))

-- Blocks that are released one by one, each at most as often as references name it. A release takes one reference
-- away, as the list of what is released loses one entry; a block that is left keeps its owner and its words.
pub named_live : (memory : SharedState) (first : ℕ) (ids : List ℕ) → AreNamed memory (first ∷ ids)
    → IsLive memory first
named_live memory first ids named = grind (arith, nat_tests, named first, listed first first ids)

released_step : (memory : SharedState) (first : ℕ) (ids : List ℕ) (id : ℕ) → IsLive memory first
    → (slot_at (state_after_release memory first) id).count + occurrences id (first ∷ ids)
    ≡ (slot_at memory id).count + occurrences id ids
released_step memory first ids id live = grind (arith, put, listed id first ids)

pub are_named_rest : (memory : SharedState) (first : ℕ) (ids : List ℕ) → AreNamed memory (first ∷ ids)
    → AreNamed (state_after_release memory first) ids
are_named_rest memory first ids named id =
    omega (arith, named id, released_step memory first ids id (named_live memory first ids named))

pub releases_counted : ReleasesAreCounted
releases_counted memory [] id named = omega arith
releases_counted memory (first ∷ ids) id named =
    let rest = releases_counted (state_after_release memory first) ids id (are_named_rest memory first ids named) in
    omega (arith, rest, released_step memory first ids id (named_live memory first ids named))

kept_step : (memory : SharedState) (first id : ℕ) → IsLive memory first
    → 0 < (slot_at (state_after_release memory first) id).count
    → ((slot_at (state_after_release memory first) id).owner ≡ (slot_at memory id).owner)
    × ((slot_at (state_after_release memory first) id).words ≡ (slot_at memory id).words)
kept_step memory first id live left = grind (arith, put)

pub releases_keep : ReleasesKeepBlocks
releases_keep memory [] id named left = (refl, refl)
releases_keep memory (first ∷ ids) id named left =
    let live = named_live memory first ids named in
    let count = released_step memory first ids id live in
    let step = kept_step memory first id live (omega arith) in
    let rest =
    releases_keep (state_after_release memory first) ids id (are_named_rest memory first ids named) (omega arith) in
    (rest.0 ∙ step.0, rest.1 ∙ step.1)

-- a number without references stays without a block
pub tidy_released : ReleaseStaysTidy
tidy_released memory id live tidy other gone = grind (arith, put, tidy other)
