-- The spans that are lent are those of the list.
use Rattle.std.proofs.Common.{length, map, arith}
use Rattle.std.proofs.lemmas.List.{length-map}
use Rattle.block_memory.specs.Writing.{IsApart, span_at, span_of}
use Rattle.std.specs.Prelude.{None}
use Rattle.std.proofs.lemmas.List.Elements.{All-map}
use Rattle.block_memory.proofs.WriterLemmas.{five_at}
use Rattle.block_memory.proofs.blocks.write_lent.Goals as goal

pub write_block-requires-clause-apart : goal.write_block-requires-clause-apart
write_block-requires-clause-apart g c =
    let long = length-map c.args.lent.now (span_at c.args.spans.now) in
    let are =
    five_at (span_of None) (map (span_at c.args.spans.now) c.args.lent.now) _ _ _ _ _
    (omega (arith, long, c.requires.few)) c.lent_span.ensures c.lent_span-2.ensures c.lent_span-3.ensures
    c.lent_span-4.ensures c.lent_span-5.ensures in
    rw (rw long at are)
    (All-map (IsApart (length c.args.words.now) c.args.place c.args.len) (span_at c.args.spans.now) c.args.lent.now
    c.requires.apart)
