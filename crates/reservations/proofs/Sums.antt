-- The sums over a list of grants.
use Rattle.std.proofs.Common.{◌≡◌, ℕ, zero, suc, ◌+◌, ◌-◌, ◌<◌, ◌≤◌, List, [], ◌∷◌, length, get_or, Option}
use Rattle.std.proofs.Common.{Some, None, set, refl, sym, ap, subst, arith}
use Rattle.std.specs.Prelude.{IsSome, sum_by}
use Rattle.std.proofs.lemmas.List.Sums.{sum_by-cons}
use Rattle.reservations.specs.declared.Grant.{Grant}
use Rattle.reservations.specs.BookState.{BookState, IsJob, grant_of, words_of, held_of, words_held_by}
use Rattle.reservations.specs.BookState.{with_held, IsCovered}
use Rattle.reservations.specs.Laws.{HeldIsWithinGranted, GrantedWordsAreThere}

-- of the grant at a place no more is held than it has
abbrev pub IsWithinAt : List (Option Grant) → ℕ → Type 0
IsWithinAt grants index = held_of (get_or grants index None) ≤ words_of (get_or grants index None)

held_sum-le-words_sum : (grants : List (Option Grant)) → ((index : ℕ) → IsWithinAt grants index) →
    sum_by held_of grants ≤ sum_by words_of grants
held_sum-le-words_sum [] each = omega arith
held_sum-le-words_sum (grant ∷ grants) each =
    let first : held_of grant ≤ words_of grant = each 0 in
    omega (
      arith,
      first,
      sum_by-cons held_of grant grants,
      sum_by-cons words_of grant grants,
      held_sum-le-words_sum grants (λ index. each (suc index)),
    )

-- with as many words more as a grant has left
held_sum-le-words_sum_more : (grants : List (Option Grant)) (index n : ℕ) → ((index : ℕ) → IsWithinAt grants index) →
    index < length grants → held_of (get_or grants index None) + n ≤ words_of (get_or grants index None) →
    sum_by held_of grants + n ≤ sum_by words_of grants
held_sum-le-words_sum_more [] index n each inside fits = absurd (omega (arith, inside))
held_sum-le-words_sum_more (grant ∷ grants) zero n each inside fits =
    let own : held_of grant + n ≤ words_of grant = fits in
    omega (
      arith,
      own,
      sum_by-cons held_of grant grants,
      sum_by-cons words_of grant grants,
      held_sum-le-words_sum grants (λ index. each (suc index)),
    )
held_sum-le-words_sum_more (grant ∷ grants) (suc index) n each inside fits =
    let first : held_of grant ≤ words_of grant = each 0 in
    omega (
      arith,
      first,
      sum_by-cons held_of grant grants,
      sum_by-cons words_of grant grants,
      held_sum-le-words_sum_more grants index n (λ index. each (suc index)) (omega (arith, inside)) fits,
    )

each_within : (book : BookState) → IsCovered book → (index : ℕ) → IsWithinAt book.grants index
each_within book covers index =
    let place : suc index - 1 ≡ index = omega arith in
    subst (IsWithinAt book.grants) place (covers.jobs (suc index))

pub held_within_granted : HeldIsWithinGranted
held_within_granted book covers = held_sum-le-words_sum book.grants (each_within book covers)

pub granted_words_are_there : GrantedWordsAreThere
granted_words_are_there book job n covers is fits =
    omega (
      arith,
      covers.region,
      held_sum-le-words_sum_more book.grants (job - 1) n (each_within book covers) (omega (arith, is.0, is.1)) fits,
    )

-- a grant with the words that it has, of which as many are held
same_grant : (grants : List (Option Grant)) (index held : ℕ) → index < length grants →
    IsSome (get_or grants index None) → held ≡ held_of (get_or grants index None) →
    set grants index (Some (record { words = words_of (get_or grants index None); held = held })) ≡ grants
same_grant [] index held within some is = absurd (omega (arith, within))
same_grant (None ∷ grants) zero held within some is = grind arith
same_grant (Some grant ∷ grants) zero held within some is =
    ap (λ (h : ℕ). let g : Grant = record { words = grant.words; held = h } in (Some g ∷ grants)) is
same_grant (grant ∷ grants) (suc index) held within some is =
    ap (λ (gs : List (Option Grant)). grant ∷ gs) (same_grant grants index held (omega (arith, within)) some is)

-- a refund of nothing
pub none_refunded : (book : BookState) (job n : ℕ) → IsJob book job → IsSome (grant_of book job) → n ≡ 0 →
    book ≡ with_held book job (words_held_by book job - n)
none_refunded book job n is_job has none =
    ap (λ (gs : List (Option Grant)). let b : BookState = record { region = book.region; grants = gs } in b)
    (sym (same_grant book.grants (job - 1) _ (omega (arith, is_job)) has (omega (arith, none))))
