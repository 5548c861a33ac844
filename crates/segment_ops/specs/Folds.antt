-- The exclusive scan of a list by any step, from any start.
use Rattle.std.specs.Prelude.{ℤ, List, length, map, take, fold}
use Rattle.vcode_base.specs.Segments.{places}

-- at each place the fold of the elements before it
abbrev pub exclusive_scan : (ℤ → ℤ → ℤ) → ℤ → List ℤ → List ℤ
exclusive_scan combine start xs = map (λ k. fold combine start (take k xs)) (places (length xs))
