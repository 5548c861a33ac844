use Rattle.std.proofs.Common.{rules, codes}
use Rattle.vcode_reader.specs.Ahead.{begun}
use Rattle.vcode_reader.specs.Parsing.{take}
use Rattle.vcode_reader.proofs.Earlier.{front_read}
use Rattle.vcode_reader.proofs.Pieces.{passes_word}
use Rattle.vcode_reader.proofs.reader.Scanner.of_int.Goals as goal

pub take_of_int-requires-clause-fits : goal.take_of_int-requires-clause-fits
take_of_int-requires-clause-fits g c =
    rw (← c.self.view_is) at (front_read (begun c.args.keyword c.args.self.now) _ _ _
    (passes_word take (begun c.args.keyword c.args.self.now) c.args.text.now (codes "INT") c.split_at.result.1.now
    c.requires.text c.requires.word (c.is_int_ahead.ensures c.if-not-is_int_ahead.false) c.split_at.ensures.back)
    c.requires.fits)

pub returns-clause-same : goal.returns-clause-same
returns-clause-same g c = search (rules, passes_word take (begun c.args.keyword c.args.self.now))
