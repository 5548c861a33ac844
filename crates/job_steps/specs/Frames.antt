-- The place of an active call: a line of its function's code, and what of the function remains from there.
use Rattle.std.specs.Prelude.{◌≡◌, ◌<◌, ℕ, Bool, true, false, List, [], ◌∷◌, ◌++◌, drop, length, Option, Some, None}
use Rattle.std.specs.Prelude.{slice_get}
use Rattle.vcode_base.specs.declared.instr.Instr.TheVariants.{If, Return}
use Rattle.vcode_reader.specs.declared.line.CodeItem.{CodeItem}
use Rattle.vcode_reader.specs.declared.line.CodeItem.TheVariants as code_item
use Rattle.vcode_reader.specs.declared.line.Numbered.{Numbered}
use Rattle.vcode_reader.specs.Decode.{Tail, Waits, ForElse, ForIf, tail_of, then_body}
use Rattle.vcode_reader.specs.Trees.{Item, Body, End, Do, Choice, CodeLine, Function, line_of, lines_of}
use Rattle.vcode_reader.specs.Trees.{instruction_line, body_lines}
use Rattle.job_steps.specs.declared.frame.Frame.{Frame}
use Rattle.job_steps.specs.States.{Active}

-- ---- what remains of a function from one of its lines on

-- what follows the IFs whose parts aren't over, the innermost first
abbrev pub rest_behind : List Waits → Body
rest_behind [] = End
rest_behind (ForElse end rest ∷ waits) = then_body rest (rest_behind waits)
rest_behind (ForIf second end rest ∷ waits) = then_body rest (rest_behind waits)

-- the body that a tail of the code begins with, and what follows it
abbrev pub rest_of_tail : Tail → Body
rest_of_tail t = then_body t.body (rest_behind t.waits)

-- what remains if these lines, up to the last of the function, are still to come
abbrev pub remaining : List CodeLine → Body
remaining lines = rest_of_tail (tail_of lines)

-- neither an ELSE nor an ENDIF, which the code passes over
abbrev pub IsStop : CodeItem Item → Type 0
IsStop (code_item.Do i) = Unit {0}
IsStop code_item.If = Unit {0}
IsStop code_item.Else = ⊥
IsStop code_item.Endif = ⊥

-- the lines don't begin with one that is passed over
abbrev pub StopAt : List CodeLine → Type 0
StopAt [] = Unit {0}
StopAt (x ∷ xs) = IsStop x.item

-- one that it passes over
abbrev pub is_passed : CodeItem Item → Bool
is_passed code_item.Else = true
is_passed code_item.Endif = true
is_passed item = false

-- the lines begin with one that is passed over
abbrev pub begin_passed : List CodeLine → Bool
begin_passed [] = false
begin_passed (x ∷ xs) = is_passed x.item

-- the line that a body begins with, if RET follows the body
abbrev pub first_line : Body → ℕ → CodeLine
first_line End ret = instruction_line Return ret
first_line (Do item line rest) ret = instruction_line item line
first_line (Choice line first second end rest) ret = line_of code_item.If line

-- the line that a call goes on with
abbrev pub next_line : Active → CodeLine
next_line call = first_line call.rest call.ret

-- the instruction of a line
abbrev pub instruction_in : CodeItem Item → Item
instruction_in (code_item.Do i) = i
instruction_in _ = If

abbrev pub instruction_of : CodeLine → Numbered Item
instruction_of x = line_of (instruction_in x.item) x.number

-- ---- frames

abbrev pub lines_at : Option Function → List CodeLine
lines_at None = []
lines_at (Some f) = lines_of f

-- the lines of a frame's function from its place on
abbrev pub lines_from : List Function → Frame → List CodeLine
lines_from functions frame = drop frame.place (lines_at (slice_get functions frame.function))

-- what remains of a call, with its RET
abbrev pub with_return : Active → Body
with_return call = then_body call.rest (Do Return call.ret End)

-- a frame is at a call if its lines are what remains of the call
pub record Stands (functions : List Function) (frame : Frame) (call : Active) : Type 0 where
  pub remains : remaining (lines_from functions frame) ≡ with_return call

-- the innermost frame is at the line that is executed next, and not before it at one that is passed over
abbrev pub IsSettled : List Function → List Frame → Type 0
IsSettled functions [] = Unit {0}
IsSettled functions (frame ∷ frames) = StopAt (lines_from functions frame)

-- the lines of a function from the place of a frame on
abbrev pub lines_ahead : Function → Frame → List CodeLine
lines_ahead f frame = drop frame.place (lines_of f)

-- a frame goes on at another of its function, which has fewer lines to come, and as much remains
pub record GoesOnAt (f : Function) (old new : Frame) : Type 0 where
  pub function : new.function ≡ old.function
  pub same : remaining (lines_ahead f new) ≡ remaining (lines_ahead f old)
  pub fewer : length (lines_ahead f new) < length (lines_ahead f old)

-- the functions of a program
abbrev pub Functions : Type 0
Functions = List Function

-- the place of the function of the innermost call
abbrev pub function_in : List Frame → Option ℕ
function_in [] = None
function_in (frame ∷ frames) = Some frame.function

-- the innermost frame, which is of this function, is at a line that is passed over
abbrev pub is_passing : Function → List Frame → Bool
is_passing f [] = false
is_passing f (frame ∷ frames) = begin_passed (lines_ahead f frame)

-- the innermost call is of this function
pub record IsInnermost (functions : List Function) (frames : List Frame) (f : Function) : Type 0 where
  pub place : ℕ
  pub function_is : function_in frames ≡ Some place
  pub found : slice_get functions place ≡ Some f

-- a frame of this function is at some call
pub record StandsOf (f : Function) (frame : Frame) : Type 0 where
  pub functions : List Function
  pub found : slice_get functions frame.function ≡ Some f
  pub call : Active
  pub stands : Stands functions frame call

-- each frame is at the call of the same index, the innermost first
abbrev pub StandAll : List Function → List Frame → List Active → Type 0
StandAll functions [] [] = Unit {0}
StandAll functions [] (call ∷ calls) = ⊥
StandAll functions (frame ∷ frames) [] = ⊥
StandAll functions (frame ∷ frames) (call ∷ calls) = Stands functions frame call × StandAll functions frames calls

-- some call is active
abbrev pub AreActive : List Function → List Frame → Type 0
AreActive functions frames = (call : Active) × (outer : List Active) × StandAll functions frames (call ∷ outer)

-- some call is active, and the innermost is of this function
pub record IsOfFunction (functions : List Function) (frames : List Frame) (f : Function) : Type 0 where
  pub active : AreActive functions frames
  pub innermost : IsInnermost functions frames f

-- The frames are passed on, within the innermost function, to the line that is executed next: they are at the calls
-- that they were at.
pub record SettlesIn (f : Function) (old new : List Frame) : Type 0 where
  pub stays : function_in new ≡ function_in old
  pub stand : (functions : List Function) (calls : List Active) → IsInnermost functions old f →
      StandAll functions old calls → StandAll functions new calls
  pub settled : (functions : List Function) → IsInnermost functions old f → IsSettled functions new

-- ---- what remains, line by line

-- Nothing remains of no lines. An instruction remains with what follows it, and so does an IF with its two parts; the
-- code passes over an ELSE with the part after it, and over an ENDIF.
pub record LineRemains (item : Item) (line number end : ℕ) (first second : Body) (rest : List CodeLine) : Type 0 where
  pub nothing : remaining [] ≡ End
  pub instruction : remaining (instruction_line item line ∷ rest) ≡ Do item line (remaining rest)
  pub begins : remaining (line_of code_item.If line ∷ (body_lines first
      ++ line_of code_item.Else number ∷ (body_lines second ++ line_of code_item.Endif end ∷ rest)))
      ≡ Choice line first second end (remaining rest)
  pub passes : remaining (line_of code_item.Else number ∷ (body_lines second ++ line_of code_item.Endif end ∷ rest))
      ≡ remaining rest
  pub leaves : remaining (line_of code_item.Endif end ∷ rest) ≡ remaining rest

abbrev pub EachLineRemains : Type 0
EachLineRemains =
    (item : Item) (line number end : ℕ) (first second : Body) (rest : List CodeLine) →
    LineRemains item line number end first second rest
