-- What a book keeps true of its grants and of their running sum.
use Rattle.std.specs.Prelude.{◌≡◌, ℕ, ◌≤◌, List, sum_by, All, Option}
use Rattle.reservations.specs.declared.Grant.{Grant}
use Rattle.reservations.specs.BookState.{words_of, held_of}

pub record IsKept (region granted : ℕ) (grants : List (Option Grant)) : Type 0 where
  pub sum : granted ≡ sum_by words_of grants
  pub within : granted ≤ region
  pub jobs : All (λ grant. held_of grant ≤ words_of grant) grants
