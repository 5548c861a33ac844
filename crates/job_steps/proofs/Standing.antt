-- Frames at calls: the line that is next, and the frame after it.
use Rattle.vcode_reader.specs.Decode.{tail_of, then_body}
use Rattle.std.proofs.lemmas.Grind.{common_steps}
use Rattle.std.proofs.Common.{rules, ◌≡◌, ◌∙◌, ◌+◌, ◌<◌, ℕ, Bool, List, [], ◌∷◌, length, drop, Option, get_or, Some}
use Rattle.std.proofs.Common.{None, ap, sym, arith, ◌++◌}
use Rattle.std.specs.Prelude.{slice_get, if◌then◌else◌, IsSome, MatchOption}
use Rattle.std.proofs.lemmas.List.{drop_all, drop_more}
use Rattle.std.proofs.lemmas.Option.{slice_get_cases, slice_get_within, get_or_from_slice_get}
use Rattle.vcode_base.specs.declared.instr.Instr.TheVariants.{Return}
use Rattle.vcode_reader.specs.declared.line.CodeItem.TheVariants as code_item
use Rattle.vcode_reader.specs.Targets.{target_at, EachTargetIsFirst}
use Rattle.vcode_reader.specs.Trees.{Item, Body, End, Do, Choice, CodeLine, Function, body_lines, instruction_line}
use Rattle.vcode_reader.specs.Trees.{lines_of}
use Rattle.job_steps.specs.declared.frame.Frame.{Frame}
use Rattle.job_steps.specs.Frames.{IsStop, StandsOf, StopAt, Stands, remaining, lines_from, with_return, next_line}
use Rattle.job_steps.specs.Frames.{begin_passed, instruction_of, is_passed, lines_at, lines_ahead}
use Rattle.job_steps.specs.States.{Active}
use Rattle.job_steps.specs.Steps.{next_item}
use Rattle.job_steps.proofs.Passing.{if_chooses, else_passes, remaining_do, remaining_nothing, then_assoc}

-- ---- bodies that differ

end_return : (b : Body) (ret : ℕ) → End ≡ then_body b (Do Return ret End) → ⊥
unfolding then_body
end_return End ret h = let differ : End ≡ Do Return ret End = h in cc
end_return (Do i l b) ret h = let differ : End ≡ Do i l (then_body b (Do Return ret End)) = h in cc
end_return (Choice l x y e b) ret h = let differ : End ≡ Choice l x y e (then_body b (Do Return ret End)) = h in cc

-- ---- the place of a frame

front_of : {X : Type 0} (xs : List X) (p : ℕ) (x : X) (ys : List X) → drop p xs ≡ x ∷ ys → slice_get xs p ≡ Some x
front_of xs p x ys h = grind (arith, slice_get_cases, drop_all, drop_more)

pub at_place : {X : Type 0} (xs : List X) (p : ℕ) (x : X) → slice_get xs p ≡ Some x → drop p xs ≡ x ∷ drop (p + 1) xs
at_place xs p x h =
    drop_more xs p x (slice_get_within xs p x h) ∙ ap (λ y. y ∷ drop (p + 1) xs) (get_or_from_slice_get xs p x x h)

pub record StandsAt (functions : List Function) (frame : Frame) (call : Active) : Type 0 where
  pub function : Function
  pub found : slice_get functions frame.function ≡ Some function
  pub line : CodeLine
  pub there : slice_get (lines_of function) frame.place ≡ Some line

stands_lines : (functions : List Function) (frame : Frame) (call : Active) (f : Function) →
    slice_get functions frame.function ≡ Some f → (xs : List CodeLine) → drop frame.place (lines_of f) ≡ xs →
    remaining xs ≡ with_return call → StandsAt functions frame call
stands_lines functions frame call f found [] at h = grind (arith, end_return, remaining_nothing)
stands_lines functions frame call f found (x ∷ xs) at h = grind (arith, front_of)

pub stands_at : (functions : List Function) (frame : Frame) (call : Active) → Stands functions frame call →
    StandsAt functions frame call
stands_at functions frame call s = grind (arith, end_return, remaining_nothing, stands_lines)

-- of this function
pub record StandsIn (functions : List Function) (frame : Frame) (f : Function) : Type 0 where
  pub found : slice_get functions frame.function ≡ Some f
  pub within : frame.place < length (lines_of f)

module _ (functions gs : List Function) (frame : Frame) (call : Active) (same : gs ≡ functions)
    (s : Stands functions frame call) where
  pub has_function : frame.function < length gs
  has_function = let at = stands_at functions frame call s in grind (arith, slice_get_within)

  pub stands_in : (g : Function) → g ≡ get_or gs frame.function g → StandsIn functions frame g
  stands_in g is =
      let at = stands_at functions frame call s in grind (arith, get_or_from_slice_get, slice_get_within)

-- the line at the place of a frame
pub line_at : (functions : List Function) (frame : Frame) (call : Active) (g : Function) (x : CodeLine) →
    slice_get functions frame.function ≡ Some g → Stands functions frame call → StopAt (lines_from functions frame) →
    Some x ≡ slice_get (lines_of g) frame.place → x ≡ next_line call
unfolding then_body
line_at functions frame call g x found s stop here =
    grind (arith, at_place, remaining_do, if_chooses)

-- the line at the place of a frame in its function
module _ (f : Function) (frame : Frame) (o : Option CodeLine) (at : StandsOf f frame)
    (is : o ≡ slice_get (lines_of f) frame.place) where
  pub line_some : IsSome o
  line_some = let there = stands_at at.functions frame at.call at.stands in grind arith

  module _ (x : CodeLine) (some : o ≡ Some x) where
    pub line_in : (functions : List Function) (call : Active) → slice_get functions frame.function ≡ Some f →
        Stands functions frame call → StopAt (lines_from functions frame) → x ≡ next_line call
    line_in functions call found stands stop = line_at functions frame call f x found stands stop (sym some ∙ is)

    pub line_passed : is_passed x.item ≡ begin_passed (lines_ahead f frame)
    line_passed = ap begin_passed (sym (at_place (lines_of f) frame.place x (sym is ∙ some)))

-- the same of the line that is found there
pub line_found : (functions : List Function) (frame : Frame) (call : Active) (s : Stands functions frame call) →
    StopAt (lines_from functions frame) → next_line call ≡ (stands_at functions frame call s).line
line_found functions frame call s stop = grind (arith, line_at)

-- the first line of a function is no ELSE or ENDIF
body_stops : (b : Body) (ret : ℕ) → StopAt (body_lines b ++ instruction_line Return ret ∷ [])
body_stops End ret = tt
body_stops (Do i l b) ret = tt
body_stops (Choice l first second e b) ret = tt

first_at : (f : Option Function) → StopAt (lines_at f)
first_at None = tt
first_at (Some f) = body_stops f.body f.ret

pub first_stops : (functions : List Function) (place : ℕ) →
    StopAt (lines_from functions (record { function = place; place = 0 }))
first_stops functions place = first_at (slice_get functions place)

pub next_item_is : (call : Active) → next_item call ≡ instruction_of (next_line call)
next_item_is call = grind arith

-- ---- the frame after an instruction

module _ (functions : List Function) (frame : Frame) (g : Function) (place : ℕ)
    (found : slice_get functions frame.function ≡ Some g) where
  abbrev frame_at : Frame
  frame_at = record { function = frame.function; place = place }

  pub stands_next : place ≡ frame.place + 1 → StopAt (lines_from functions frame) →
      (item : Item) (line ret : ℕ) (rest : Body) → Stands functions frame
      (record { rest = Do item line rest; ret = ret }) → Stands functions frame_at (record { rest = rest; ret = ret })
  unfolding then_body
  stands_next is stop item line ret rest s =
      grind (arith, remaining_nothing, slice_get_cases, drop_more, remaining_do, front_of, if_chooses)

  pub stands_chosen : (flag : Bool) → StopAt (lines_from functions frame) →
      ((line end : ℕ) (first second rest : Body) → remaining (drop frame.place (lines_of g)) ≡ Choice line first second
      end rest → StopAt (drop frame.place (lines_of g)) → remaining (drop place (lines_of g)) ≡ then_body
      (if flag then first else second) rest) → (line end ret : ℕ) (first second rest : Body) →
      Stands functions frame (record { rest = Choice line first second end rest; ret = ret }) →
      Stands functions frame_at (record { rest = then_body (if flag then first else second) rest; ret = ret })
  unfolding then_body
  stands_chosen flag stop by line end ret first second rest s = grind (arith, then_assoc)

-- ---- the parts of an IF

-- the places at which the parts of an IF begin
pub record Parts (whole : List CodeLine) (p : ℕ) (first second rest : Body) : Type 0 where
  pub chosen : remaining (drop (p + 1) whole) ≡ then_body first rest
  pub next : ℕ
  pub target : EachTargetIsFirst → target_at whole p ≡ Some next
  pub other : remaining (drop next whole) ≡ then_body second rest

pub parts : (f : Function) (p line end : ℕ) (first second rest : Body) → p < length (lines_of f) →
    remaining (drop p (lines_of f)) ≡ Choice line first second end rest → StopAt (drop p (lines_of f)) →
    Parts (lines_of f) p first second rest
parts f p line end first second rest within h stop = grind (arith, common_steps, remaining_do, if_chooses)

-- ---- the line at a place

abbrev pub GoesTo : Function → ℕ → ℕ → Type 0
GoesTo f p next =
    (p < next) × (p < length (lines_of f)) × (remaining (drop next (lines_of f)) ≡ remaining (drop p (lines_of f)))

pub stop_past_end : (f : Function) (p : ℕ) → None ≡ slice_get (lines_of f) p → StopAt (drop p (lines_of f))
stop_past_end f p e = grind (arith, slice_get_cases, drop_all)

module _ (f : Function) (p : ℕ) (x : CodeLine) (here : Some x ≡ slice_get (lines_of f) p) where
  pub within_lines : p < length (lines_of f)
  within_lines = slice_get_within (lines_of f) p x (sym here)

  pub stop_here : IsStop x.item → StopAt (drop p (lines_of f))
  stop_here h = grind (arith, at_place)

  pub else_here : EachTargetIsFirst → x.item ≡ code_item.Else → (r : Option ℕ) → r ≡ target_at (lines_of f) p →
      MatchOption r (StopAt (drop p (lines_of f))) (GoesTo f p)
  else_here first h r found = search (rules, at_place, else_passes, slice_get_within)

  pub endif_here : x.item ≡ code_item.Endif → GoesTo f p (p + 1)
  unfolding tail_of then_body
  endif_here h = grind (arith, at_place, within_lines)

-- what `passed` needs
pub ruleset of_passed = (stop_here, endif_here, stop_past_end, within_lines)

-- and what `function` needs
pub ruleset of_function = (has_function, stands_in)
