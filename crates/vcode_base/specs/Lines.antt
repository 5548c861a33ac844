-- The lines of a text, each of which an LF ends.
use Rattle.std.specs.Prelude.{ℕ, ◌+◌, ◌==◌, Bool, if◌then◌else◌, List, [], ◌∷◌}

abbrev pub is_line_feed : ℕ → Bool
is_line_feed b = b == 10

-- how many LFs a text has
abbrev pub line_feeds : List ℕ → ℕ
line_feeds [] = 0
line_feeds (b ∷ bs) = (if is_line_feed b then 1 else 0) + line_feeds bs
