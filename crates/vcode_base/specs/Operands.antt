-- The lists that the operands lent to an instruction hold.
use Rattle.std.specs.Prelude.{ℤ, List, map}
use Rattle.std.specs.Borrow.{Bor}

abbrev pub contents : List (Bor (List ℤ)) → List (List ℤ)
contents refs = map (λ r. r.now) refs
