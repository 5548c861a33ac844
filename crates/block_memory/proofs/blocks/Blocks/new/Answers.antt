use Rattle.std.proofs.Common.{ap, arith, length, None}
use Rattle.std.proofs.lemmas.List.{length-replicate}
use Rattle.block_memory.specs.declared.span.Span.{Span}
use Rattle.std.specs.Prelude.{Option}
use Rattle.block_memory.proofs.BlocksLemmas.{are_none, slots_from-empty, layout_of}
use Rattle.block_memory.proofs.blocks.Blocks.new.Goals as goal

pub returns : goal.returns
returns g c =
    rw c.in_ok-spans.ensures
    (ap (layout_of c.args.size) (slots_from-empty _ c.in_ok-words.words.items c.args.most))

pub invariant_of-result : goal.invariant_of-result
invariant_of-result g c =
    let none : Option Span = None in
    let numbers = ap length c.in_ok-spans.ensures in
    are_none _ c.in_ok-words.words.items c.in_ok-starts.starts.items c.in_ok-spans.spans c.args.size _ _ c.args.most
    c.in_ok-spans.ensures (ap length c.in_ok-words.ensures.items)
    (omega (arith, numbers, length-replicate c.args.most none, c.in_ok-words.ensures.capacity))
    c.in_ok-starts.ensures.capacity
