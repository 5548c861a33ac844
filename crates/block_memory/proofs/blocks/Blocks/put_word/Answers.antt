-- A block of one word that is put is there, and no other block changes.
use Rattle.std.proofs.Common.{rules, ◌≡◌, vec_capacity, Some, slice_set, ap, ◌∙◌}
use Rattle.block_memory.specs.declared.span.Span.{Span}
use Rattle.block_memory.proofs.Lists.{items_after_write}
use Rattle.block_memory.proofs.BlocksLemmas.{IsPut, after_word}
use Rattle.block_memory.proofs.blocks.Blocks.put_word.Goals as goal

pub returns-clause-put : goal.returns-clause-put
returns-clause-put g c =
    let e = c.insert_with-number.ensures in
    let is : e.inserted.0 ≡ record { owner = c.args.owner; place = c.insert_with-number.result; len = 1 } =
    search rules in
    let after : IsPut c.args.self.now c.write_words.new.region c.self.inside.starts.items c.insert_with-number.new.self
    c.self.inside.size (vec_capacity c.lengthen.new.list) (vec_capacity c.self.inside.starts)
    c.insert_with-number.result
    (Some (record { owner = c.args.owner; place = 0; len = 0; words = c.args.word.now })) =
    after_word c.self.invariant c.self.view_is c.deref_mut.ensures.value c.lengthen.ensures.capacity e.in_range
    c.args.owner c.lengthen.ensures.lengthened c.write_words.ensures c.requires.one
    (e.inserted.2 ∙ ap (λ (s : Span). slice_set c.self.inside.spans c.insert_with-number.result (Some s)) is) in
    rw (items_after_write c.lengthen.new.list _ _ c.deref_mut.ensures.value c.write_words.ensures.same_size)
    after.layout
