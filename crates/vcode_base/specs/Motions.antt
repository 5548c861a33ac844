-- How the entries at the top of a stack are moved, whatever they are.
use Rattle.std.specs.Prelude.{List, ◌++◌}
use Rattle.vcode_base.specs.declared.op.StackMove.{StackMove}
use Rattle.vcode_base.specs.declared.op.StackMove.TheVariants.{Copy, Pop, MoveToTop}

-- what a motion leaves of the entries that it takes, from the bottom up: the lower ones, and the upper that lie on them
abbrev pub entries_after_move : {E : Type 0} → StackMove → List E → List E → List E
entries_after_move Copy lower upper = lower ++ (upper ++ lower)
entries_after_move Pop lower upper = upper
entries_after_move MoveToTop lower upper = upper ++ lower
