-- The frames after an instruction.
use Rattle.std.proofs.Common.{ap, arith, ◌≡◌, ◌∙◌, ◌<◌, ℕ, Bool, List, [], ◌∷◌, length, drop, Option, Some, refl, sym}
use Rattle.std.proofs.Common.{subst}
use Rattle.std.specs.Prelude.{slice_get, position, if◌then◌else◌, IsSome}
use Rattle.std.specs.Str.{bytes_eq}
use Rattle.std.proofs.lemmas.Option.{none-some, same_Some, slice_get-map}
use Rattle.vcode_base.specs.declared.instr.Instr.TheVariants as instr
use Rattle.vcode_base.specs.declared.op.Op.{Op}
use Rattle.vcode_base.specs.declared.op.Op.TheVariants as op
use Rattle.vcode_base.specs.Instructions.{op_of}
use Rattle.vcode_base.specs.Names.{main_name}
use Rattle.vcode_reader.specs.declared.line.CodeItem.TheVariants as code_item
use Rattle.vcode_reader.specs.Callees.{callees_of, callee_at as callee_at_line}
use Rattle.vcode_reader.specs.Decode.{then_body}
use Rattle.vcode_reader.specs.Trees.{Item, Body, Do, Choice, Function, Program}
use Rattle.verifier.specs.Typed.{TypedProgram}
use Rattle.job_steps.specs.declared.flow.Flow.{Flow}
use Rattle.job_steps.specs.declared.flow.Flow.TheVariants as flows
use Rattle.job_steps.specs.declared.flow.Flow.TheVariants.{Next, Choose}
use Rattle.job_steps.specs.declared.frame.Frame.{Frame}
use Rattle.job_steps.specs.Flows.{IsFlowOf}
use Rattle.job_steps.specs.Reached.{IsVerifiedBySome}
use Rattle.job_steps.specs.Frames.{AreActive, Functions, IsInnermost, IsOfFunction, IsSettled, StandsOf, StopAt}
use Rattle.job_steps.specs.Frames.{Stands, StandAll}
use Rattle.job_steps.specs.Frames.{begin_passed, is_passing, lines_ahead, lines_from, next_line}
use Rattle.job_steps.specs.Piles.{PileState}
use Rattle.job_steps.specs.States.{Active, Callee, callee_named, first_state}
use Rattle.job_steps.specs.Steps.{next_item}
use Rattle.job_steps.specs.Tracks.{CanCall, CanFollow, Follow, IsCallOf, first_call, functions_of}
use Rattle.job_steps.proofs.Passing.{remaining_of_all}
use Rattle.job_steps.proofs.StackLemmas.{length-stack_after, length-results}
use Rattle.job_steps.proofs.Standing.{first_stops, stands_at, line_at, line_found, next_item_is}
use Rattle.job_steps.proofs.Typed.{callee}

-- ---- the innermost frame

-- the innermost frame is at the innermost call, and the others at the others
pub record IsTop (fs : List Function) (frames : List Frame) (frame : Frame) (call : Active) (outer : List Active)
    : Type 0
  where
    pub inner : Stands fs frame call
    pub others : StandAll fs (drop 1 frames) outer

pub top_frame : (fs : List Function) (frames : List Frame) (frame : Frame) (call : Active) (outer : List Active) →
    slice_get frames 0 ≡ Some frame → StandAll fs frames (call ∷ outer) → IsTop fs frames frame call outer
top_frame fs [] frame call outer e s = absurd s
top_frame fs (f ∷ frames) frame call outer e s = grind arith

-- ---- the line that is next, by its instruction without list or name

-- whichever calls a frame is at, the same line is next
one_line : (fs : List Function) (frame : Frame) (a b : Active) → StopAt (lines_from fs frame) → Stands fs frame a →
    Stands fs frame b → next_line a ≡ next_line b
one_line fs frame a b stop s t =
    let at = stands_at fs frame a s in
    line_found fs frame a s stop ∙ line_at fs frame b at.function at.line at.found t stop (sym at.there)

-- the innermost frame of settled ones
pub stop_top : (fs : List Function) (frames : List Frame) (frame : Frame) → slice_get frames 0 ≡ Some frame →
    IsSettled fs frames → StopAt (lines_from fs frame)
stop_top fs frames frame e settled = grind arith

-- ---- the calls after an instruction

-- what the frame after an instruction promises
abbrev pub IsBehind : List Function → Frame → Frame → Type 0
IsBehind fs frame next =
    (item : Item) (line ret : ℕ) (rest : Body) → Stands fs frame (record { rest = Do item line rest; ret = ret }) →
    Stands fs next (record { rest = rest; ret = ret })

-- what the frame at a part of an IF promises
abbrev pub IsChosen : List Function → Bool → Frame → Frame → Type 0
IsChosen fs flag frame part =
    (line end ret : ℕ) (first second rest : Body) → Stands fs frame
    (record { rest = Choice line first second end rest; ret = ret }) → Stands fs part
    (record { rest = then_body (if flag then first else second) rest; ret = ret })

-- a CALL that can be followed
pub record CallIs (verified : TypedProgram) (frames : List Frame) (frame : Frame) (room : ℕ) : Type 0 where
  pub name : List ℕ
  pub callee : Callee
  pub is : IsCallOf verified frame name callee
  pub few : length frames < room

call_named : (item : Item) → op_of item ≡ op.Call → (name : List ℕ) × (item ≡ instr.Call name)
call_named item e = grind arith

pub call_is : (verified : TypedProgram) (frames : List Frame) (frame : Frame) → slice_get frames 0 ≡ Some frame →
    (o : Op) (room : ℕ) → CanFollow verified o frames room → o ≡ op.Call → CallIs verified frames frame room
call_is verified frames frame top o room can is =
    let named = call_named (next_item can.call).item (can.op_is ∙ is) in
    let found = subst (λ i. CanCall verified i (length frames) room) named.1 can.called in
    let inner = (top_frame (functions_of verified) frames frame can.call can.outer top can.stands).inner in
    let line : (next_line can.call).item ≡ code_item.Do (instr.Call named.0) = grind arith in
    record {
      name = named.0;
      callee = found.0;
      is = record { call = can.call; stands = inner; next = line; is = found.1 };
      few = found.2;
    }

-- the frames that `follow` leaves, over functions that are those of the program
module _ (verified : TypedProgram) (fs : List Function) (same : fs ≡ functions_of verified) (old new : PileState Frame)
    (frame : Frame) (top : slice_get old.entries 0 ≡ Some frame) (flow : Flow)
    (can : (o : Op) × CanFollow verified o old.entries old.room × IsFlowOf o flow)
    (settled : IsSettled (functions_of verified) old.entries) where
  -- whichever calls the frames are at, the next line is that of the call which can be followed
  next_is : (call : Active) → Stands (functions_of verified) frame call → next_line call ≡ next_line can.1.call
  next_is call s = grind (arith, one_line)

  record IsHere (call : Active) (outer : List Active) : Type 0 where
    inner : Stands fs frame call
    others : StandAll fs (drop 1 old.entries) outer
    line : next_line call ≡ next_line can.1.call

  here : (call : Active) (outer : List Active) → StandAll (functions_of verified) old.entries (call ∷ outer) →
      IsHere call outer
  here call outer s = grind (arith, next_is)

  pub left_if : (flag : Bool) → flow ≡ Choose flag → (part : Frame) → IsChosen fs flag frame part →
      new ≡ record old { entries = part ∷ drop 1 old.entries } → Follow verified flow old.entries new.entries
  left_if flag is part chosen e = λ call outer s. let h = here call outer s in grind arith

  pub left_return : flow ≡ flows.Return → new ≡ record old { entries = drop 1 old.entries } →
      Follow verified flow old.entries new.entries
  left_return is e = λ call outer s. let h = here call outer s in grind arith

  pub left_next : flow ≡ Next → (next : Frame) → IsBehind fs frame next →
      new ≡ record old { entries = next ∷ drop 1 old.entries } → Follow verified flow old.entries new.entries
  left_next is next behind e = λ call outer s. let h = here call outer s in grind arith

  pub left_call : flow ≡ flows.Call → (next inner : Frame) → IsBehind fs frame next → ((name : List ℕ)
      (callee : Callee) → IsCallOf verified frame name callee →
      Stands (functions_of verified) inner (first_call callee)) →
      (between : PileState Frame) → between ≡ record old { entries = next ∷ drop 1 old.entries } →
      new ≡ record between { entries = inner ∷ between.entries } → Follow verified flow old.entries new.entries
  left_call is next inner behind first between e f =
      let c = call_is verified old.entries frame top can.0 old.room can.1 (grind arith) in
      let named = c.is.is in
      let line = c.is.next in
      let called = first c.name c.callee c.is in
      let there = next_is c.is.call c.is.stands in λ call outer s. let h = here call outer s in grind arith

-- ---- the first frame of a function

abbrev pub frame_of : ℕ → Frame
frame_of place = record { function = place; place = 0 }

abbrev is_named : List ℕ → Function → Bool
is_named name f = bytes_eq f.name name

-- the place that is found, if the function with the name is called
pub record Found (verified : TypedProgram) (o : Option ℕ) (c : Callee) : Type 0 where
  pub some : IsSome o
  pub first : (place : ℕ) → o ≡ Some place → Stands (functions_of verified) (frame_of place) (first_call c)

found_by : (verified : TypedProgram) (name : List ℕ) (o : Option ℕ) (c : Callee) →
    o ≡ position (is_named name) (functions_of verified) → callee_named verified name ≡ Some c → Found verified o c
found_by verified name o c at named = grind (arith, remaining_of_all)

-- the callee of a CALL
pub found_call : (p : Program) (v verified : TypedProgram) (frame : Frame) (name : List ℕ) (c : Callee) (o : Option ℕ) →
    p ≡ v.program → v ≡ verified → StopAt (lines_from (functions_of verified) frame) →
    IsCallOf verified frame name c → o ≡ callee_at_line p.functions frame.function frame.place → Found verified o c
unfolding callees_of
found_call p v verified frame name c o program same stop call here =
    let s = stands_at (functions_of verified) frame call.call call.stands in
    let line = line_found (functions_of verified) frame call.call call.stands stop in
    found_by verified name o c (grind (arith, slice_get-map)) call.is

-- ---- MAIN

pub record MainIs (verified : TypedProgram) (o : Option ℕ) : Type 0 where
  pub some : IsSome o
  pub first : (place : ℕ) → o ≡ Some place →
      StandAll (functions_of verified) (frame_of place ∷ []) (first_state verified).calls

pub main_is : (verified : TypedProgram) (o : Option ℕ) → IsVerifiedBySome verified →
    o ≡ position (is_named main_name) (functions_of verified) → MainIs verified o
main_is verified o v at =
    let by = v.1.by_signatures in
    let main = callee v.0 verified v.1 main_name [] verified.results by.results by.well_kinded.main in
    let is = main.is in grind (arith, found_by)

-- ---- the functions of the program that a job holds

pub same_functions : (p : Program) (v verified : TypedProgram) → p ≡ v.program → v ≡ verified →
    p.functions ≡ functions_of verified
same_functions p v verified program same = cc

-- the innermost frame is at some call
pub inner_stands : (verified : TypedProgram) (frames : List Frame) (frame : Frame) (o : Op) (room : ℕ)
    (fs : List Function) → slice_get frames 0 ≡ Some frame → CanFollow verified o frames room →
    fs ≡ functions_of verified → (call : Active) × Stands fs frame call
inner_stands verified frames frame o room fs top can same =
    (can.call, rw same (top_frame (functions_of verified) frames frame can.call can.outer top can.stands).inner)

-- and at the line that is executed next
pub inner_settled : (verified : TypedProgram) (frames : List Frame) (frame : Frame) (fs : List Function) →
    slice_get frames 0 ≡ Some frame → IsSettled (functions_of verified) frames → fs ≡ functions_of verified →
    StopAt (lines_from fs frame)
inner_settled verified frames frame fs top settled same = grind arith

-- ---- lines that are passed over

-- what of the innermost call is still to come
abbrev pub lines_left : Function → List Frame → ℕ
lines_left f [] = 0
lines_left f (frame ∷ frames) = length (lines_ahead f frame)

-- the same calls are active
abbrev pub StandToo : List Function → (old new : List Frame) → Type 0
StandToo fs old new = (calls : List Active) → StandAll fs old calls → StandAll fs new calls

pub top_active : (fs : List Function) (frames : List Frame) (frame : Frame) → slice_get frames 0 ≡ Some frame →
    AreActive fs frames → (call : Active) × Stands fs frame call
top_active fs frames frame top active = (active.0, (top_frame fs frames frame active.0 active.1 top active.2).inner)

-- the innermost call is of the function of the innermost frame
pub top_function : (fs : Functions) (frames : List Frame) (frame : Frame) (f : Function) → slice_get frames 0 ≡ Some
    frame → slice_get fs frame.function ≡ Some f → IsInnermost fs frames f
top_function fs [] frame f top found = absurd (none-some frame top)
top_function fs (x ∷ frames) frame f top found = record {
  place = frame.function;
  function_is = ap (λ (x : Frame). Some x.function) (same_Some x frame top);
  found = found;
}

-- and that of the innermost frame is that of the innermost call
pub found_top : (fs : Functions) (frames : List Frame) (frame : Frame) (f : Function) → slice_get frames 0 ≡ Some
    frame → IsInnermost fs frames f → slice_get fs frame.function ≡ Some f
found_top fs [] frame f top is = absurd (none-some frame top)
found_top fs (x ∷ frames) frame f top is = grind arith

-- some call is active, so there is a frame
pub some_frame : (fs : Functions) (frames : List Frame) → AreActive fs frames → 0 < length frames
some_frame fs [] active = absurd active.2
some_frame fs (frame ∷ frames) active = grind arith

-- and if the innermost call is of some function
pub inner_frame : (fs : Functions) (frames : List Frame) (f : Function) → IsInnermost fs frames f → 0 < length frames
inner_frame fs [] f is = absurd (none-some is.place is.function_is)
inner_frame fs (frame ∷ frames) f is = grind arith

-- the innermost frame is at some call
pub at_line : (fs : Functions) (frames : List Frame) (frame : Frame) (f : Function) → slice_get frames 0 ≡ Some frame →
    IsOfFunction fs frames f → StandsOf f frame
at_line fs frames frame f top is =
    let active = top_active fs frames frame top is.active in
    record {
      functions = fs;
      found = found_top fs frames frame f top is.innermost;
      call = active.0;
      stands = active.1;
    }

-- whether the innermost frame is at a line that is passed over
pub passing_top : (frames : List Frame) (frame : Frame) (f : Function) → slice_get frames 0 ≡ Some frame →
    begin_passed (lines_ahead f frame) ≡ is_passing f frames
passing_top [] frame f top = absurd (none-some frame top)
passing_top (x ∷ frames) frame f top = ap (λ y. begin_passed (lines_ahead f y)) (sym (same_Some x frame top))

-- what `function`, `line`, `main_frame` and `follow` need
pub ruleset of_functions = (top_active, top_function, some_frame)

pub ruleset of_next_lines = (at_line, found_top, inner_frame, stop_top, top_frame, passing_top, next_item_is)

pub ruleset of_main = (same_functions, main_is, first_stops)

pub ruleset of_follow = (same_functions, inner_stands, inner_settled, stop_top, call_is)

-- ---- when a job's next instruction can be followed

-- as many frames as calls
pub same_length : (fs : List Function) (frames : List Frame) (calls : List Active) → StandAll fs frames calls →
    length frames ≡ length calls
same_length fs [] calls s = grind arith
same_length fs (frame ∷ frames) calls s = grind (arith, (same_length fs frames))

-- ---- a track that is advanced

pub no_frames : (fs : List Function) (frames : List Frame) → StandAll fs frames [] → frames ≡ []
no_frames fs [] s = refl
no_frames fs (frame ∷ frames) s = absurd s

-- what the law on tracks that are advanced needs
pub ruleset of_tracks = (no_frames, length-stack_after, length-results)
