-- How many lines a text can have.
use Rattle.std.proofs.Common.{[], ◌∷◌, arith}
use Rattle.vcode_base.specs.LineLaws.{LineFeedsAreFew}

pub line_feeds_are_few : LineFeedsAreFew
line_feeds_are_few [] = omega arith
line_feeds_are_few (b ∷ bs) = grind (arith, line_feeds_are_few bs)
