-- What is read of an input, and what is left of it.
use Rattle.std.specs.Prelude.{◌≡◌, ◌≤◌, ◌+◌, ℕ, List, take, drop, Option, Some, IfSome}
use Rattle.vcode_base.specs.declared.limits.TheConstants.{MOST_BATCH_BYTES}

-- the first bytes of an input, at most one more than a batch may have
abbrev pub first_bytes : List ℕ → List ℕ
first_bytes input = take (MOST_BATCH_BYTES + 1) input

-- a reader came to the end of its input, or exactly one byte further than a batch may have
abbrev pub ReadsFirstBytes : Option (List ℕ) → Option (List ℕ) → Type 0
ReadsFirstBytes old new = IfSome old (λ input. new ≡ Some (drop (MOST_BATCH_BYTES + 1) input))

-- a reader came at most so far
abbrev pub ReadsNoFurther : Option (List ℕ) → Option (List ℕ) → Type 0
ReadsNoFurther old new = IfSome old (λ input. (n : ℕ) × (n ≤ MOST_BATCH_BYTES + 1) × (new ≡ Some (drop n input)))
