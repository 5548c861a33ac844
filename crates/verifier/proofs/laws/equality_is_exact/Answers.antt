use Rattle.vcode_base.specs.contracts.kind.Kind as kind
use Rattle.vcode_reader.proofs.Enums.{bare, same_items}
use Rattle.vcode_reader.proofs.Equal.{same_lines, same_programs}
use Rattle.verifier.proofs.Equal.{same_typed}
use Rattle.verifier.proofs.laws.equality_is_exact.Goals as goal

pub returns : goal.returns
returns g c = same_typed (same_programs (same_lines same_items)) (bare kind.the_type tt)
