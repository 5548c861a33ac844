-- A vector in the segments of a descriptor, and what an instruction makes of one segment.
use Rattle.std.specs.Prelude.{ℕ, ℤ, pos, ◌+ℤ◌, ◌*ℤ◌, ◌==◌, Bool, false, ◌||◌, if◌then◌else◌, List, [], ◌∷◌}
use Rattle.std.specs.Prelude.{length, map, take, drop, sum_by, zip, fold, replicate, slice_index_or}
use Rattle.std.specs.Prelude.{unsigned_abs}
use Rattle.std.specs.List.{list_any, range_with_len, enumerate_from}
use Rattle.vcode_base.specs.Elements.{wrap, is_outside, fold_of}
use Rattle.vcode_base.specs.declared.op.Fold.{Fold}

-- the numbers 0 .. n - 1
abbrev pub places : ℕ → List ℕ
places n = range_with_len 0 n

-- the lengths of a descriptor
abbrev pub sizes : List ℤ → List ℕ
sizes s = map unsigned_abs s

abbrev pub total : List ℤ → ℕ
total s = sum_by unsigned_abs s

-- the elements in segments of these sizes
abbrev pub pieces_of : List ℕ → List ℤ → List (List ℤ)
pieces_of [] xs = []
pieces_of (n ∷ ns) xs = take n xs ∷ pieces_of ns (drop n xs)

-- a vector in the segments of a descriptor
abbrev pub segments : List ℤ → List ℤ → List (List ℤ)
segments s xs = pieces_of (sizes s) xs

-- at each place the fold of the elements before it
abbrev pub folds_before : Fold → List ℤ → List ℤ
folds_before f xs = map (λ k. fold_of f (take k xs)) (places (length xs))

-- n numbers from a on, each d more than the one before, wrapped
abbrev pub progression : ℕ → ℤ → ℤ → List ℤ
progression n a d = map (λ i. wrap (a +ℤ pos i *ℤ d)) (places n)

-- the element of the segment at index i
abbrev pub element : List ℤ → ℤ → ℤ
element xs i = slice_index_or xs (unsigned_abs i) (pos 0)

-- the index i names the place q
abbrev pub names : ℕ → ℤ → Bool
names q i = unsigned_abs i == q

-- the element at place q after each element has gone to its index; before, it is d
abbrev pub arrival : List (ℤ × ℤ) → ℕ → ℤ → ℤ
arrival moves q d = fold (λ there (i, x). if names q i then x else there) d moves

-- the list with each element of xs gone to its index
abbrev pub scatter_of : List ℤ → List ℤ → List ℤ → List ℤ
scatter_of xs is there = map (λ (q, d). arrival (zip is xs) q d) (enumerate_from 0 there)

-- each element gone to its index, if the indices are those of the list, each once
abbrev pub permutation_of : List ℤ → List ℤ → List ℤ
permutation_of xs is = scatter_of xs is (replicate (length xs) (pos 0))

-- two of the indices name one place
abbrev pub has_twice : List ℤ → Bool
has_twice [] = false
has_twice (i ∷ is) = list_any (names (unsigned_abs i)) is || has_twice is

-- some index of a segment is outside the segment of its number
abbrev pub any_outside : List ℕ → List (List ℤ) → Bool
any_outside ns indices = list_any (λ (n, is). list_any (is_outside n) is) (zip ns indices)
