-- What an instruction does to the entries of a stack, the top first, whatever an entry is.
use Rattle.std.specs.Prelude.{ℕ, ◌+◌, ◌-◌, List, ◌++◌, length, take, drop, reverse}
use Rattle.vcode_base.specs.declared.op.Op.{Op}
use Rattle.vcode_base.specs.declared.op.Op.TheVariants.{Move}
use Rattle.vcode_base.specs.declared.op.StackMove.{StackMove}
use Rattle.vcode_base.specs.declared.op.StackMove.TheVariants.{Copy, Pop, MoveToTop}
use Rattle.vcode_base.specs.Kinds.{operand_kinds, result_kinds}
use Rattle.vcode_base.specs.Motions.{entries_after_move}

-- the entries at the top, from the bottom up
abbrev pub top_entries : {E : Type 0} → ℕ → List E → List E
top_entries count stack = reverse (take count stack)

-- how many entries are read, and leave the stack
abbrev pub operand_count : Op → ℕ
operand_count op = length (operand_kinds op)

-- the stack after a motion of these many lower entries and upper ones on them
abbrev pub stack_after_move : {E : Type 0} → StackMove → ℕ → ℕ → List E → List E
stack_after_move motion lower upper stack =
    reverse (entries_after_move motion (top_entries lower (drop upper stack)) (top_entries upper stack))
    ++ drop lower (drop upper stack)

-- the stack after an instruction with these results, from the bottom up
abbrev pub stack_after : {E : Type 0} → Op → List E → List E → List E
stack_after (Move motion lower upper) results stack = stack_after_move motion lower upper stack
stack_after op results stack = reverse results ++ drop (operand_count op) stack

-- how many entries a motion of `lower` lower ones leaves, of a number of entries before
abbrev pub depth_after_move : StackMove → ℕ → ℕ → ℕ
depth_after_move Copy lower depth = depth + lower
depth_after_move Pop lower depth = depth - lower
depth_after_move MoveToTop lower depth = depth

-- how many entries an instruction leaves, of a number of entries before
abbrev pub depth_after : Op → ℕ → ℕ
depth_after (Move motion lower upper) depth = depth_after_move motion lower depth
depth_after op depth = (depth - operand_count op) + length (result_kinds op)
