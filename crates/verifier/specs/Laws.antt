-- A program is well kinded exactly if it has no kind fault.
use Rattle.std.specs.Prelude.{◌≡◌, ◌↔◌, List, None}
use Rattle.vcode_reader.specs.Trees.{Program}
use Rattle.signatures.specs.Signatures.{Signature}
use Rattle.verifier.specs.First.{kind_fault}
use Rattle.verifier.specs.Kinded.{IsWellKinded}

abbrev pub NoFaultWhereWellKinded : Type 0
NoFaultWhereWellKinded =
    (signatures : List Signature) (program : Program)
    → (kind_fault signatures program ≡ None) ↔ IsWellKinded signatures program
