use Rattle.std.proofs.Common.{arith}
use Rattle.vcode_reader.specs.declared.keyword.Keyword.TheVariants.{Move}
use Rattle.vcode_reader.specs.Ahead.{begun}
use Rattle.vcode_reader.proofs.Earlier.{front_read}
use Rattle.vcode_reader.proofs.Numerals.{digits_passed}
use Rattle.vcode_reader.proofs.reader.Scanner.motion.Goals as goal

pub take_move-requires-clause-fits : goal.take_move-requires-clause-fits
take_move-requires-clause-fits g c =
    let s = begun (Move c.args.motion) c.args.self.now in
    rw (← c.self.view_is) at (front_read s _ _ _ (digits_passed s c.args.text.now c.split_at.result.1.now
    c.in-Some.lower c.in-Some.upper c.requires.text c.requires.word c.in-Some.ensures.first c.in-Some.ensures.second
    c.split_at.ensures.back) c.requires.fits)

pub returns-clause-same : goal.returns-clause-same
returns-clause-same g c =
    let same = digits_passed (begun (Move c.args.motion) c.args.self.now) c.args.text.now c.split_at.result.1.now
    c.in-Some.lower c.in-Some.upper c.requires.text c.requires.word c.in-Some.ensures.first c.in-Some.ensures.second
    c.split_at.ensures.back in
    grind arith
