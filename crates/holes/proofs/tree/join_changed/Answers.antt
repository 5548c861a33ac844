use Rattle.std.proofs.Common.{rules}
use Rattle.holes.proofs.Trees.{tree_of_beside, changed_joining}
use Rattle.holes.proofs.tree.join_changed.Goals as goal

pub returns-then-changed-eq0 : goal.returns-then-changed-eq0
returns-then-changed-eq0 c = tree_of_beside c.requires.tree c.if-changed-eq0.true

pub returns : goal.returns
returns c =
    c.join_above.ensures c.args.bits.now
    (changed_joining c.requires.tree c.if-changed-eq0.false c.requires.few (search rules))
