use Rattle.std.proofs.lemmas.Bool.Decides.{nat_tests}
use Rattle.std.proofs.Common.{◌≤◌, length, arith}
use Rattle.vcode_reader.proofs.Earlier.{open_word_fits}
use Rattle.vcode_reader.proofs.Pieces.{some_bytes}
use Rattle.vcode_reader.proofs.reader.Scanner.end_word.Goals as goal

pub take-requires : goal.take-requires
take-requires g c =
    let some : 1 ≤ length c.args.self.now.word = grind (arith, nat_tests, some_bytes) in
    let fits = open_word_fits c.args.self.now some c.requires in
    record { fits = rw c.as_slice.ensures.value (rw (← c.self.view_is) at fits) }
