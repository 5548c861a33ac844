-- A profile after a step.
use Rattle.std.proofs.Common.{add-one, List, Option, None, Some, refl, ◌≡◌, ◌≢◌, ℕ, ◌+◌, ◌<◌, ◌≤◌, cond, []}
use Rattle.std.proofs.Common.{get_or, length, max, sym, ◌∙◌, ap, subst, arith}
use Rattle.std.specs.Prelude.{nat_lt}
use Rattle.std.proofs.Math.ListN.{set}
use Rattle.std.proofs.lemmas.Bool.Decides.{nat_tests}
use Rattle.std.proofs.lemmas.List.Sums.{get_or-le-sum_by}
use Rattle.vcode_reader.specs.Trees.{CodeLine}
use Rattle.job_steps.specs.Reached.{IsVerifiedBySome}
use Rattle.job_steps.specs.Runs.{executed_count_in, peak_in, state_after}
use Rattle.job_steps.specs.Standings.{held_in}
use Rattle.job_steps.specs.States.{Task}
use Rattle.job_steps.specs.Steps.{Progress}
use Rattle.job_slots.specs.Answers.{demand_in}
use Rattle.job_profile.specs.declared.coming.Coming.{Coming}
use Rattle.job_profile.specs.declared.coming.Effect.{Effect}
use Rattle.job_profile.specs.declared.strip.Column.{Column}
use Rattle.job_profile.specs.Comings.{coming_by, coming_in}
use Rattle.job_profile.specs.Columns.{AreFine, column_at, highest}
use Rattle.job_profile.specs.Counts.{IsFirstPeak, line_in, number_of, times_until}
use Rattle.job_profile.specs.Moves.{HasExecuted, HasMoved}
use Rattle.job_profile.specs.Sound.{CountAlike, IsProfile}
use Rattle.job_profile.specs.Strips.{IsStrip}
use Rattle.job_profile.specs.Walks.{HasCome, RunState, next_line_in, progress_of}
use Rattle.job_profile.proofs.Lists.{IsMore, more_by}

number_coming : (line : Option CodeLine) → (coming_by line).line ≡ number_of line
number_coming None = refl
number_coming (Some line) = refl

pub line_coming : (p : Progress) → (coming_in p).line ≡ line_in p
line_coming p = number_coming (next_line_in p)

-- ---- the counts after an instruction

times_more : {task : Task} {p q : Progress} {was times : List ℕ} {line : ℕ} → HasExecuted task p q →
    IsMore was times line → line ≡ line_in p → ((l : ℕ) → get_or was l 0 ≡ times_until task l (executed_count_in p)) →
    (l : ℕ) → get_or times l 0 ≡ times_until task l (executed_count_in q)
unfolding times_until
times_more x one is are l = rw (x.executed, add-one, ← x.before, ← is, ← are l) (one.each l)

-- what the instruction puts into a column
column_by : {task : Task} {p q : Progress} {column : Column} → HasExecuted task p q →
    column.most ≡ demand_in task.rule p → column.least ≡ held_in q → column.line ≡ line_in p →
    column ≡ column_at task (executed_count_in p)
column_by x most least line = grind arith

-- the greatest peak, and the first state with it
peaks_by : (task : Task) (n peak most after : ℕ) → IsFirstPeak task peak after →
    ((m : ℕ) → m ≤ n → peak_in (state_after task m) ≤ peak) → peak_in (state_after task (n + 1)) ≡ most → peak ≤ most →
    ((m : ℕ) → m ≤ n + 1 → peak_in (state_after task m) ≤ most)
    × IsFirstPeak task most (cond (nat_lt peak most) (n + 1) after)
peaks_by task n peak most after first rises reached more = grind (arith, nat_tests)

-- nothing is executed
pub first_profile : (task : Task) (coming : Coming) → IsVerifiedBySome task.verified →
    coming ≡ coming_in (state_after task 0) → IsProfile task (state_after task 0) [] 0 [] 1 0 coming
unfolding times_until
first_profile task coming verified is = grind arith

-- ---- a step of a profile

-- the same of the job after the step
pub of_new : {task : Task} {p : Progress} {new : RunState} {times : List ℕ} {after : ℕ} {columns : List Column}
    {each room : ℕ} {coming : Coming} → HasCome task p new →
    IsProfile task (progress_of new) times after columns each room coming →
    IsProfile new.task (progress_of new) times after columns each room coming
of_new come h = grind arith

-- what is found of the instruction, in the words of the job before the step
pub found_by : {task : Task} {p q : Progress} {new : RunState} {effect : Effect} {held most : ℕ} → HasCome task q new →
    ((p : Progress) → HasExecuted new.task p (progress_of new) → effect ≡ (coming_in p).effect → held ≡ held_in p →
    most ≡ demand_in new.task.rule p) → effect ≡ (coming_in p).effect → held ≡ held_in p →
    HasExecuted task p (progress_of new) → most ≡ demand_in task.rule p
found_by {p = p} {new = new} {most = most} come found effect_is held_is =
    subst (λ t. HasExecuted t p (progress_of new) → most ≡ demand_in t.rule p) come.task_is
    (λ x. found p x effect_is held_is)

module _ {task : Task} {p q : Progress} {was grown : List ℕ} {after : ℕ} {columns : List Column} {each room : ℕ}
    {coming : Coming} (h : IsProfile task p was after columns each room coming) (moved : HasMoved task p q)
    (alike : CountAlike was grown) where
  -- no instruction was executed
  pub stays : {next : Coming} → executed_count_in q ≡ executed_count_in p → next ≡ coming_in q →
      IsProfile task q grown after columns each room next
  stays same is = grind arith

  -- one was
  pub executes : executed_count_in q ≢ executed_count_in p → HasExecuted task p q
  executes other = grind (arith, moved.moves)

  -- its count stays within the number of instructions
  pub fits : executed_count_in q ≢ executed_count_in p → {place : ℕ} → place < length grown →
      get_or grown place 0 + 1 ≤ executed_count_in q
  fits other {place} there =
      omega (
        arith,
        get_or-le-sum_by (λ (n : ℕ). n) grown place 0 there,
        alike.total,
        h.counted.total,
        (executes other).executed,
      )

  -- it is counted, and goes into a column
  pub counts : executed_count_in q ≢ executed_count_in p → {column : Column} {more : List Column}
      {each' room' later : ℕ} {times : List ℕ} {next : Coming} →
      ((of : ℕ → Column) (n : ℕ) → IsStrip of n columns each room → column ≡ of n →
      IsStrip of (n + 1) more each' room') →
      ((of : ℕ → Column) (n : ℕ) → IsStrip of n columns each room → AreFine (n + 1) each') →
      highest more ≡ max (highest columns) column.most → column.line < length grown → column.line ≡ line_in p →
      times ≡ set grown column.line (get_or grown column.line 0 + 1) →
      later ≡ cond (nat_lt (peak_in p) (peak_in q)) (executed_count_in q) after →
      (HasExecuted task p q → column.most ≡ demand_in task.rule p) →
      column.least ≡ held_in q → next ≡ coming_in q → IsProfile task q times later more each' room' next
  counts other {column} {more} {each'} {room'} {later} {times} strip fine greatest there line_is times_is later_is asked
      least_is next_is =
      record {
        on_run = moved.on_run;
        counted = record {
          rises = rw x.executed peaks.0;
          times_are = times_more x one_more line_is h.counted.times_are;
          total = omega (arith, one_more.total, h.counted.total, x.executed);
          first = rw (later_is, x.executed) peaks.1;
          strip = rw x.executed (strip (column_at task) n h.counted.strip is);
          fine = rw x.executed (fine (column_at task) n h.counted.strip);
          highest_is = omega (arith, greatest, h.counted.highest_is, asked x, x.peak_is);
        };
        coming_is = next_is;
      }
    where
      n : ℕ
      n = executed_count_in p

      x : HasExecuted task p q
      x = executes other

      is : column ≡ column_at task n
      is = column_by x (asked x) least_is line_is

      one_more : IsMore was times column.line
      one_more = more_by was grown times column.line alike there times_is

      peaks : ((m : ℕ) → m ≤ n + 1 → peak_in (state_after task m) ≤ peak_in q)
          × IsFirstPeak task (peak_in q) (cond (nat_lt (peak_in p) (peak_in q)) (n + 1) after)
      peaks =
          peaks_by task n (peak_in p) (peak_in q) after h.counted.first h.counted.rises
          (ap peak_in (ap (state_after task) (add-one n) ∙ sym x.after)) (omega (arith, x.peak_is))
