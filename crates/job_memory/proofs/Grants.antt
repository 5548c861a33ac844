-- The grants of a book, and the words that were granted.
use Rattle.std.proofs.Common.{◌≡◌, ℕ, List, [], ◌∷◌, get_or, set, map, refl, ap, arith, zero, suc}
use Rattle.std.specs.Prelude.{Option, Some, None, IsSome, sum_by, replicate}
use Rattle.std.proofs.lemmas.List.{map-set, set-get_or, length-map}
use Rattle.std.proofs.lemmas.List.Sums.{sum_by-cons}
use Rattle.std.proofs.Math.ListN.{get_or-map}
use Rattle.block_memory.specs.declared.memory.NoRoom.{NoRoom}
use Rattle.block_memory.specs.declared.memory.NoRoom.TheVariants.{Full, Memory}
use Rattle.reservations.specs.declared.Grant.{Grant}
use Rattle.reservations.specs.BookState as book
use Rattle.job_memory.specs.JobBlocks.{words_of}
use Rattle.job_memory.specs.Inside.{grant_words}

pub words_same : (grant : Option Grant) → words_of (grant_words grant) ≡ book.words_of grant
words_same grant = grind arith

pub granted_same : (grants : List (Option Grant)) →
    sum_by words_of (map grant_words grants) ≡ sum_by book.words_of grants
granted_same [] = refl
granted_same (grant ∷ grants) =
    omega (
      arith,
      words_same grant,
      sum_by-cons words_of (grant_words grant) (map grant_words grants),
      sum_by-cons book.words_of grant grants,
      granted_same grants,
    )

pub at_place : (grants : List (Option Grant)) (index : ℕ) →
    get_or (map grant_words grants) index None ≡ grant_words (get_or grants index None)
at_place grants index = get_or-map grant_words grants index None

pub grant_put : (grants : List (Option Grant)) (index : ℕ) (grant : Option Grant)
    → map grant_words (set grants index grant) ≡ set (map grant_words grants) index (grant_words grant)
grant_put grants index grant = map-set grant_words grants index grant

-- a grant of which another part is held is of the same words
pub same_words : (grants : List (Option Grant)) (index held : ℕ) → IsSome (get_or grants index None)
    → map grant_words (set grants index (Some (record {
      words = book.words_of (get_or grants index None);
      held = held;
    }))) ≡ map grant_words grants
same_words grants index held some =
    let same = set-get_or (map grant_words grants) index None in grind (arith, grant_put, at_place)

pub no_grants : (jobs : ℕ) → map grant_words (replicate jobs None) ≡ replicate jobs None
no_grants zero = refl
no_grants (suc jobs) = ap (λ (rest : List (Option ℕ)). None ∷ rest) (no_grants jobs)

-- what is known of the grants
pub ruleset of_grants = (words_same, granted_same, at_place, grant_put, same_words, length-map)

pub no_fault : (fault : NoRoom) → (fault ≡ Full → ⊥) → (fault ≡ Memory → ⊥) → ⊥
no_fault Full full memory = full refl
no_fault Memory full memory = memory refl
