-- Which numbers fit into 64 bits by the count of their digits.
use Rattle.std.specs.Prelude.{◌≡◌, ℕ, ◌<◌, ◌^◌, List, length}
use Rattle.vcode_base.specs.Bytes.{below, decimal}

abbrev pub FewDigitsFit : Type 0
FewDigitsFit = (text : List ℕ) → length text < 20 → below (2 ^ 64) (decimal text) ≡ decimal text
