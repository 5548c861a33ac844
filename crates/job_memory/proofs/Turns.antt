-- One turn of the loop that shares blocks.
use Rattle.std.proofs.Common.{◌≡◌, ℕ, ◌+◌, ◌<◌, ◌≤◌, List, ◌∷◌, length, get_or, drop, sym, ap, ◌∙◌, arith}
use Rattle.std.proofs.lemmas.List.{at_drop_more}
use Rattle.refcounts.specs.SharedState.{SharedState, slot_at, IsLive, state_after_share, state_after_shares}
use Rattle.job_memory.proofs.Slots.{put}

-- a share leaves each count as it was, or one higher
pub count_shared : (memory : SharedState) (first id : ℕ) → IsLive memory first
    → ((slot_at memory id).count ≤ (slot_at (state_after_share memory first) id).count)
    × ((slot_at (state_after_share memory first) id).count ≤ (slot_at memory id).count + 1)
count_shared memory first id live = grind (arith, put)

-- what is left to be shared begins with the block of the turn
pub shares_next : (memory : SharedState) (ids : List ℕ) (index id : ℕ) → index < length ids
    → id ≡ get_or ids index id
    → state_after_shares (state_after_share memory id) (drop (index + 1) ids)
    ≡ state_after_shares memory (drop index ids)
shares_next memory ids index id within is =
    sym (at_drop_more (state_after_shares memory) ids index id within
    ∙ ap (λ k. state_after_shares memory (k ∷ drop (index + 1) ids)) (sym is))

pub ruleset of_share = (count_shared, shares_next)
