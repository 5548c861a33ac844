-- What may hold at a state of a run, and at how many states it does.
use Rattle.std.specs.Prelude.{◌≡◌, ℕ, zero, suc, ◌+◌, ◌==◌, ◌≤◌, nat_lt, Bool, true, false, if◌then◌else◌, List}
use Rattle.std.specs.Prelude.{Option, Some, None}
use Rattle.std.specs.Str.{bytes_eq}
use Rattle.vcode_base.specs.declared.instr.Instr.TheVariants.{Call}
use Rattle.vcode_reader.specs.declared.line.CodeItem.{CodeItem}
use Rattle.vcode_reader.specs.declared.line.CodeItem.TheVariants as code_item
use Rattle.vcode_reader.specs.Trees.{CodeLine, Item}
use Rattle.job_steps.specs.LeastLimits.{cells_in}
use Rattle.job_steps.specs.Runs.{state_after}
use Rattle.job_steps.specs.Standings.{held_in}
use Rattle.job_steps.specs.States.{Task}
use Rattle.job_steps.specs.Steps.{Progress}
use Rattle.job_slots.specs.Answers.{told_need_in}
use Rattle.job_profile.specs.declared.stop.Stop.{Stop}
use Rattle.job_profile.specs.declared.stop.Stop.TheVariants as stop
use Rattle.job_profile.specs.Walks.{HasCome, RunState, goes_on, next_line_in, progress_of}

-- ---- what holds at a state

-- there is a line, and it has this number
abbrev pub is_on : ℕ → Option CodeLine → Bool
is_on number None = false
is_on number (Some line) = line.number == number

abbrev pub calls_name : List ℕ → CodeItem Item → Bool
calls_name name (code_item.Do (Call called)) = bytes_eq called name
calls_name name item = false

-- there is a line, and its instruction calls the function of this name
abbrev pub is_call_of : List ℕ → Option CodeLine → Bool
is_call_of name None = false
is_call_of name (Some line) = calls_name name line.item

-- At a state at which the run is over nothing holds.
abbrev pub holds_in : Stop (List ℕ) → Progress → Bool
holds_in (stop.Line number) p = is_on number (next_line_in p)
holds_in (stop.Call name) p = is_call_of name (next_line_in p)
holds_in (stop.Words most) p = nat_lt most (held_in p)
holds_in (stop.Entries most) p = nat_lt most (cells_in p)
holds_in (stop.Makes most) p = nat_lt most (told_need_in p)

-- ---- at how many states

-- at how many of the first n states of a run it holds
unfoldable pub held_until : Stop (List ℕ) → Task → ℕ → ℕ
held_until what task zero = 0
held_until what task (suc n) =
    held_until what task n + (if holds_in what (state_after task n) then 1 else 0)

-- The run has come to the first state at which it holds after `skip` others at which it does, from where the run was.
pub record IsAtStop (what : Stop (List ℕ)) (skip : ℕ) (old new : RunState) : Type 0 where
  pub from : ℕ
  pub to : ℕ
  pub was : progress_of old ≡ state_after old.task from
  pub later : from ≤ to
  pub come : HasCome old.task (state_after old.task to) new
  pub holds : holds_in what (progress_of new) ≡ true
  pub others : held_until what old.task to ≡ held_until what old.task from + skip

-- The run is over. It holds at `skip` of its states at most, from where the run was.
pub record IsAtNone (what : Stop (List ℕ)) (skip : ℕ) (old new : RunState) : Type 0 where
  pub from : ℕ
  pub to : ℕ
  pub was : progress_of old ≡ state_after old.task from
  pub later : from ≤ to
  pub come : HasCome old.task (state_after old.task to) new
  pub over : goes_on (progress_of new) ≡ false
  pub few : (n : ℕ) → held_until what old.task n ≤ held_until what old.task from + skip

abbrev pub IsStopped : Bool → Stop (List ℕ) → ℕ → (old new : RunState) → Type 0
IsStopped true what skip old new = IsAtStop what skip old new
IsStopped false what skip old new = IsAtNone what skip old new
