use Rattle.std.proofs.Common.{length, refl, sym}
use Rattle.vcode_reader.proofs.Measures.{piece_fits, size_within}
use Rattle.vcode_reader.proofs.Fed.{of_more_bytes, fed_all}
use Rattle.vcode_reader.proofs.reader.CodeReader.feed.Goals as goal

pub bytes-fed-requires-clause-fits : goal.bytes-fed-requires-clause-fits
bytes-fed-requires-clause-fits g c =
    piece_fits _ _ _ _ c.args.piece.now c.self.invariant c.if-self.false
    (size_within c.self.view_is c.if-self.false (length c.args.piece.now) c.requires.size)

pub invariant_of-self-else-is_err : goal.invariant_of-self-else-is_err
invariant_of-self-else-is_err g c =
    of_more_bytes c.bytes-fed.result _ _ _ _ _ _ _ c.if-is_err.ensures.value c.bytes-fed.ensures refl
    (size_within c.self.view_is c.if-self.false (length c.args.piece.now) c.requires.size) c.self.invariant

pub returns-else-is_err-clause-fed : goal.returns-else-is_err-clause-fed
returns-else-is_err-clause-fed g c =
    fed_all c.bytes-fed.result c.args.self.now _ _ _ _ _ _ _ (sym c.self.view_is) c.if-self.false refl
    c.bytes-fed.ensures
