use Rattle.worked_regions.proofs.Taken.{none_in_range}
use Rattle.worked_regions.proofs.free_words.none_free.Goals as goal

pub returns : goal.returns
returns c all_taken =
    none_in_range c.args.words.now c.args.place c.args.len c.requires (c.are_taken.ensures.0 all_taken)
