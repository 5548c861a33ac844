-- Results one after another.
use Rattle.std.specs.Prelude.{Result, Ok, Err}

-- what is made of a result: the first error ends it
abbrev pub result_and_then : {A B E : Type 0} → Result A E → (A → Result B E) → Result B E
result_and_then (Ok found) rest = rest found
result_and_then (Err error) rest = Err error
