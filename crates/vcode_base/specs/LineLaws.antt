-- How many lines a text can have.
use Rattle.std.specs.Prelude.{ℕ, ◌≤◌, List, length}
use Rattle.vcode_base.specs.Lines.{line_feeds}

abbrev pub LineFeedsAreFew : Type 0
LineFeedsAreFew = (bytes : List ℕ) → line_feeds bytes ≤ length bytes
