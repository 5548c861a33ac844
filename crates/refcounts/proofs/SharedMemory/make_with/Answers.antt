use Rattle.std.proofs.Common.{arith}
use Rattle.refcounts.proofs.Slots.{of_first, slot_is, length-slots_of, words_listed}
use Rattle.refcounts.proofs.SharedMemory.make_with.Goals as goal

pub place_with-requires-clause-can : goal.place_with-requires-clause-can
place_with-requires-clause-can g c = rw (words_listed _ _ _ _ c.args.lent.now c.self.view_is) c.requires.can

pub returns-in-Err-clause-fault : goal.returns-in-Err-clause-fault
returns-in-Err-clause-fault g c =
    rw (words_listed _ _ _ _ c.args.lent.now c.self.view_is) at c.in-Err.ensures.fault

pub returns-in-Ok-clause-made : goal.returns-in-Ok-clause-made
returns-in-Ok-clause-made g c =
    let p = c.in-Ok.ensures.placed in
    record {
      words = p.words;
      in_range = grind (arith, length-slots_of, p.in_range);
      empty = grind (arith, slot_is, p.empty);
      long = p.long;
      so = rw (words_listed _ _ _ _ c.args.lent.now c.self.view_is) at p.so;
      made = grind (arith, of_first, p.placed);
    }
