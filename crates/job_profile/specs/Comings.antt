-- What the next instruction of a run does, and its line.
use Rattle.std.specs.Prelude.{ℕ, Bool, true, false, Option, Some, None}
use Rattle.vcode_base.specs.declared.instr.Instr.TheVariants.{Call, If, Move, Return}
use Rattle.vcode_base.specs.declared.instr.Instr.TheVariants.{Segmented as SegmentedInstr}
use Rattle.vcode_base.specs.declared.op.Segmented.TheVariants.{Pack}
use Rattle.vcode_reader.specs.declared.line.CodeItem.{CodeItem}
use Rattle.vcode_reader.specs.declared.line.CodeItem.TheVariants as code_item
use Rattle.vcode_reader.specs.Trees.{CodeLine, Item}
use Rattle.job_steps.specs.Counted.{top_words}
use Rattle.job_steps.specs.Steps.{Progress}
use Rattle.job_profile.specs.declared.coming.Coming.{Coming}
use Rattle.job_profile.specs.declared.coming.Effect.{Effect}
use Rattle.job_profile.specs.declared.coming.Effect.TheVariants as effect
use Rattle.job_profile.specs.Walks.{lists_in, next_line_in}

-- The instruction of a line moves entries, calls a function, ends a call, or is an IF. Else it makes a result, and PACK
-- makes two.
abbrev pub effect_of : CodeItem Item → Effect
effect_of (code_item.Do (Move motion lower upper)) = effect.Moves motion
effect_of (code_item.Do (Call name)) = effect.Calls
effect_of (code_item.Do Return) = effect.Returns
effect_of (code_item.Do (SegmentedInstr (Pack kind))) = effect.MakesTwo
effect_of (code_item.Do If) = effect.Chooses
effect_of (code_item.Do item) = effect.Makes
effect_of item = effect.Chooses

abbrev pub coming_by : Option CodeLine → Coming
coming_by None = record { effect = effect.Nothing; line = 0 }
coming_by (Some line) = record { effect = effect_of line.item; line = line.number }

-- the instruction that is next, and its line
abbrev pub coming_in : Progress → Coming
coming_in p = coming_by (next_line_in p)

-- it moves entries or calls, so that it takes no operand and has no result
abbrev pub does_move : Effect → Bool
does_move (effect.Moves motion) = true
does_move effect.Calls = true
does_move effect.Returns = true
does_move e = false

-- how many results it has
abbrev pub result_count : Effect → ℕ
result_count effect.Makes = 1
result_count effect.MakesTwo = 2
result_count e = 0

-- the words of the results at a state that follows it
abbrev pub made_in : Effect → Progress → ℕ
made_in e p = top_words (result_count e) (lists_in p)
