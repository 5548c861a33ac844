use Rattle.std.proofs.lemmas.Bool.Decides.{Decides-at}
use Rattle.vcode_reader.proofs.Enums.{same_items}
use Rattle.vcode_reader.proofs.Equal.{same_lines, same_programs}
use Rattle.vcode_reader.proofs.laws.equal_programs.Goals as goal

pub returns : goal.returns
returns g c =
    Decides-at _ _ c.eq.ensures (same_programs (same_lines same_items) c.args.left.now c.args.right.now)
