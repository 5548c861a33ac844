use Rattle.std.proofs.Common.{◌≡◌, ◌++◌, length, map}
use Rattle.batch_reader.specs.Lines.{lines}
use Rattle.batch_filler.specs.Filled.{filled}
use Rattle.batch_reader.specs.declared.section.Section.TheVariants.{Between}
use Rattle.batch_filler.proofs.fill.fill_batch.Given as goal

abbrev pub invariant-loop-line : goal.invariant-loop-line
invariant-loop-line g l =
    l.new.items ++ filled l.section (map (λ text. text.items) l.left) (lines l.rest)
    ≡ filled Between (map (λ text. text.items) l.fn.texts) (lines l.fn.batch)

abbrev pub decreases-loop-line : goal.decreases-loop-line
decreases-loop-line g l = length l.rest
