-- What a step in one go makes of a run.
use Rattle.std.proofs.Common.{◌≡◌, ℕ, zero, suc, ◌+◌, ◌-◌, ◌≤◌, Bool, false, true, List, Option, None, Some}
use Rattle.std.proofs.Common.{refl, sym, ◌∙◌, ap, subst, arith}
use Rattle.vcode_base.specs.declared.outcome.Outcome.{Outcome}
use Rattle.job_steps.specs.declared.event.Event.TheVariants.{Begin, Finish}
use Rattle.job_steps.specs.EventLaws.{EndedAreOver, IsVerified, IsRunning, StandsOnRun}
use Rattle.job_steps.specs.Events.{early_end}
use Rattle.job_steps.specs.Reached.{EndsOnce, Reaches}
use Rattle.job_steps.specs.Runs.{state_after, progress_from, outcome, executed_count, peak}
use Rattle.job_steps.specs.Standings as standing
use Rattle.job_steps.specs.Standings.{Standing}
use Rattle.job_steps.specs.States.{Vector, Task}
use Rattle.job_steps.specs.Steps.{Progress, Running, Over, Stuck}
use Rattle.refcounts.specs.SharedState.{block_count, blocks_in}
use Rattle.job_memory.specs.JobBlocks.{JobBlocks, ChangesOnlyOf, own_slots}
use Rattle.job_slots.specs.Laws.{ShownIsAlone}
use Rattle.job_slots.specs.Slots.{HasNumbersOnRun, Shows, SlotState, standing_of}
use Rattle.job_slots.specs.declared.answer.Stepped.{Stepped}
use Rattle.job_slots.specs.Answers.{HasRunFor, is_live, Steps, StepsLead, after_stepped, standing_after_step}
use Rattle.job_profile.specs.SoundRun.{IsAdmitted, IsSound, run_by}
use Rattle.job_profile.specs.Walks.{HasGoneOn, RunState, goes_on, progress_at, progress_of}

-- a job that a step leaves ended is over
over : EndedAreOver → (task : Task) → IsVerified task → (n : ℕ) (run : IsRunning task n) →
    standing_after_step 1 task (standing.Live n) ≡ standing.Ended →
    state_after task (n + 1) ≡ Over (outcome task) (executed_count task) (peak task)
over law task verified n run ends =
    let begun = law task verified (Begin 1) (standing.Live n) run in
    let finished = λ (none : early_end task run.state ≡ None).
    law task verified (Finish 1) (standing.InFlight n) (record { run = run; goes_on = none }) in
    grind (arith, run.running)

-- ---- blocks

counted_with : (old new : JobBlocks) → ChangesOnlyOf 1 old new →
    block_count new.memory + blocks_in (own_slots 1 old) ≡ block_count old.memory + blocks_in (own_slots 1 new)
counted_with old new changes = grind arith

-- ---- a step

-- what a step answers leads to the next state of the run
pub stepped_by : EndedAreOver → (task : Task) → IsVerified task → (desk : ℕ) → task.limits.words ≤ desk →
    (before after : Standing) → IsAdmitted before → StandsOnRun task before → (answer : Stepped) →
    Steps 1 desk task before answer → after ≡ after_stepped answer before (standing_after_step 1 task before) →
    progress_at task after ≡ progress_from task (progress_at task before)
stepped_by law task verified desk enough (standing.Live n) after admitted run answer steps stands =
    let end = over law task verified n run in
    grind arith
stepped_by law task verified desk enough before after admitted run answer steps stands = grind arith

-- ---- several steps

module _ (reaches : Reaches) (ended : EndedAreOver) (once : EndsOnce) (task : Task) (verified : IsVerified task) where
  -- a step of a job that runs goes on or ends the job
  data Leads (n : ℕ) : Type 0 where
    GoesOn : standing_after_step 1 task (standing.Live n) ≡ standing.Live (n + 1) → IsRunning task (n + 1) → Leads n
    Ends : standing_after_step 1 task (standing.Live n) ≡ standing.Ended → Leads n

  leads_by : (n : ℕ) (run : IsRunning task n) (o : Option (Outcome (List Vector))) → early_end task run.state ≡ o →
      (p : Progress) → state_after task (n + 1) ≡ p → Leads n
  leads_by n run (Some ending) early p after = Ends (grind (arith, run.running))
  leads_by n run None early (Running s) after =
      GoesOn (grind (arith, run.running)) (record {
        state = s;
        running = after;
        budget = (reaches verified.0 task verified.1 (n + 1) s after).budget;
      })
  leads_by n run None early (Over ending executed peak) after = Ends (grind (arith, run.running))
  leads_by n run None early Stuck after = Ends (grind (arith, run.running))

  -- steps lead to as many instructions more, or to the end after some of them
  data HaveLed (n steps : ℕ) (new : Standing) : Type 0 where
    Lives : new ≡ standing.Live (n + steps) → HaveLed n steps new
    IsOver : (k : ℕ) → k ≤ steps → new ≡ standing.Ended →
        state_after task (n + k) ≡ Over (outcome task) (executed_count task) (peak task) → HaveLed n steps new

  further_led : (n steps : ℕ) (new : Standing) → HaveLed (n + 1) steps new → HaveLed n (suc steps) new
  further_led n steps new (Lives is) = Lives (is ∙ ap standing.Live (omega arith))
  further_led n steps new (IsOver k few is over) =
      let same : n + 1 + k ≡ n + suc k = omega arith in
      IsOver (suc k) (omega (arith, few)) is
      (subst (λ m. state_after task m ≡ Over (outcome task) (executed_count task) (peak task)) same over)

  none_led : (n : ℕ) (run : IsRunning task n) (steps : ℕ) (new : Standing) →
      standing_after_step 1 task (standing.Live n) ≡ standing.Ended → StepsLead steps 1 task standing.Ended new →
      HaveLed n (suc steps) new
  none_led n run zero new ends lead = IsOver 1 (omega arith) lead (over ended task verified n run ends)
  none_led n run (suc steps) new ends lead = absurd (let h : false ≡ true = lead.0 in cc)

  led_by : (n : ℕ) (run : IsRunning task n) (steps : ℕ) (new : Standing) →
      (IsRunning task (n + 1) → StepsLead steps 1 task (standing.Live (n + 1)) new → HaveLed (n + 1) steps new) →
      StepsLead steps 1 task (standing_after_step 1 task (standing.Live n)) new → Leads n → HaveLed n (suc steps) new
  led_by n run steps new rest lead (GoesOn is on) = further_led n steps new (rest on (rw is at lead))
  led_by n run steps new rest lead (Ends is) = none_led n run steps new is (rw is at lead)

  have_led : (steps n : ℕ) → IsRunning task n → (new : Standing) → StepsLead steps 1 task (standing.Live n) new →
      HaveLed n steps new
  have_led zero n run new lead = Lives (lead ∙ ap standing.Live (omega arith))
  have_led (suc steps) n run new lead =
      led_by n run steps new (λ on more. have_led steps (n + 1) on new more) lead.1
      (leads_by n run (early_end task run.state) refl (state_after task (n + 1)) refl)

  -- the state there
  state_by : (n count : ℕ) (new : Standing) (ran : HasRunFor count 1 task (standing.Live n) new) →
      HaveLed n ran.steps new → progress_at task new ≡ state_after task (n + count)
  state_by n count new ran (Lives is) =
      let all = ran.all (rw is refl) in
      grind arith
  state_by n count new ran (IsOver k few is over) =
      let same : n + k + (count - k) ≡ n + count = omega (arith, few, ran.within) in
      let later = once task (n + k) (count - k) _ _ _ over in
      rw is (sym (subst (λ m. state_after task m ≡ Over (outcome task) (executed_count task) (peak task)) same later))

  gone_to : (n count : ℕ) → IsRunning task n → (new : Standing) → HasRunFor count 1 task (standing.Live n) new →
      progress_at task new ≡ state_after task (n + count)
  gone_to n count run new ran = state_by n count new ran (have_led ran.steps n run new ran.lead)

  admitted_by : (n steps : ℕ) (new : Standing) → HaveLed n steps new → IsAdmitted new
  admitted_by n steps new (Lives is) = rw is tt
  admitted_by n steps new (IsOver k few is over) = rw is tt

  admitted_to : (old : Standing) → StandsOnRun task old → is_live old ≡ true → (count : ℕ) (new : Standing) →
      HasRunFor count 1 task old new → IsAdmitted new
  admitted_to (standing.Live n) run live count new ran =
      admitted_by n ran.steps new (have_led ran.steps n run new ran.lead)
  admitted_to old run live count new ran = grind arith

-- ---- what a run cites

-- there are numbers wherever the job leads
pub numbers_on : ShownIsAlone → {task : Task} {blocks : JobBlocks} {slot : SlotState} {desk : ℕ} →
    IsSound task blocks slot desk → HasNumbersOnRun 1 task blocks
numbers_on alone sound new after changes shows tidy =
    let shown = alone 1 new _ after tidy shows in
    let counted = counted_with _ new changes in
    omega (arith, counted, shown.few, changes.memory.ids, sound.counted, sound.numbers)

module _ (reaches : Reaches) (ended : EndedAreOver) (once : EndsOnce) {task : Task} {blocks : JobBlocks}
    {slot : SlotState} {desk : ℕ} (sound : IsSound task blocks slot desk)
    (stands : StandsOnRun task (standing_of slot)) where
  -- whether the job was live or not
  admitted_after : {count : ℕ} {after : SlotState} → (is_live (standing_of slot) ≡ true →
      HasRunFor count 1 task (standing_of slot) (standing_of after)) →
      (is_live (standing_of slot) ≡ false → after ≡ slot) → (b : Bool) → is_live (standing_of slot) ≡ b →
      IsAdmitted (standing_of after)
  admitted_after {count} {after} ran same true live =
      admitted_to reaches ended once task sound.shows.verified (standing_of slot) stands live count (standing_of after)
      (ran live)
  admitted_after ran same false live = rw (same live) sound.admitted

  pub sound_after : {count : ℕ} {after : SlotState} {new : JobBlocks} {room : ℕ} → (is_live (standing_of slot) ≡ true →
      HasRunFor count 1 task (standing_of slot) (standing_of after)) →
      (is_live (standing_of slot) ≡ false → after ≡ slot) → Shows 1 new task after → ChangesOnlyOf 1 blocks new →
      room ≡ desk → IsSound task new after room
  sound_after {after = after} {new = new} ran same shows changes desk_is = record {
    shows = shows;
    admitted = admitted_after ran same (is_live (standing_of slot)) refl;
    numbers = omega (arith, changes.memory.ids, sound.numbers);
    counted = omega (arith, counted_with blocks new changes, sound.counted);
    enough = rw desk_is sound.enough;
  }

  gone_at : {count : ℕ} {r s : RunState} (after : SlotState) (old : Standing) → standing_of slot ≡ old →
      StandsOnRun task old → run_by task slot ≡ r → run_by task after ≡ s → goes_on (progress_at task old) ≡ true →
      (is_live old ≡ true → HasRunFor count 1 task old (standing_of after)) → HasGoneOn count r s
  gone_at {count} after (standing.Live n) is run view new_view on ran =
      rw (← view, ← new_view) (record {
        from = n;
        was = ap (progress_at task) is;
        come = record {
          task_is = refl;
          progress_is = gone_to reaches ended once task sound.shows.verified n count run (standing_of after) (ran refl);
        };
      })
  gone_at after old is run view new_view on ran = grind (arith, sound.admitted)

  pub gone_by_steps : {count : ℕ} {r : RunState} (after : SlotState) → run_by task slot ≡ r →
      goes_on (progress_of r) ≡ true → (is_live (standing_of slot) ≡ true →
      HasRunFor count 1 task (standing_of slot) (standing_of after)) → HasGoneOn count r (run_by task after)
  gone_by_steps after view on ran =
      gone_at after (standing_of slot) refl stands view refl (rw (← view) at on) ran
