-- Each turn of the loop is a step of the job, or settles its track. The job is over when the loop ends.
use Rattle.std.proofs.Common.{◌+◌, ◌∙◌, ℕ, ap, refl, sym}
use Rattle.job_steps.specs.States.{ruled}
use Rattle.job_slots.specs.Slots.{SlotState}
use Rattle.job_slots.proofs.Standings.{HasTurned, first_on, has_run, shown_goes_on, turned_across, turned_settled}
use Rattle.job_slots.proofs.Standings.{turned_within}
use Rattle.job_slots.proofs.slot.Slot.run.Given.{Over}
use Rattle.job_slots.proofs.slot.Slot.run.Goals.{After-used-used-in-loop-self, in-Within, in-Across, in-Settled}
use Rattle.job_slots.proofs.slot.Slot.run.Goals as goal

turned : (g : Over) (c : After-used-used-in-loop-self g) → (steps : ℕ) × HasTurned c.args.turn.number
    (ruled c.args.turn.rule c.args.job.now) c.args.self.now c.args.blocks.now c.loop-self.function.now
    c.match-step_or_settle.function.now c.loop-self.self steps c.step_or_settle.new.self c.step_or_settle.new.blocks
turned g c =
    let turns = c.step_or_settle.ensures.turns in
    let on = c.loop-self.invariant.1 in
    let tidy = c.used-used-in-loop-self.ensures.tidy in
    elim c.match-step_or_settle.branch [
      | in-Within w ↦ (
        c.loop-self.invariant.0 + 1,
        rw w.function-is (turned_within _ _ _ _ _ _ _ _ _ _ _ on c.changes_join.ensures c.reached.ensures tidy
            (rw w.in-Within.is at turns) c.loop-self.invariant.3),
      )
      | in-Across w ↦ (
        c.loop-self.invariant.0 + 1,
        rw w.function-is (turned_across _ _ _ _ _ _ _ _ _ _ _ on c.changes_join.ensures c.reached.ensures tidy
            (rw w.in-Across.is at turns) w.function-function-in-Across.ensures),
      )
      | in-Settled w ↦ (
        c.loop-self.invariant.0,
        rw w.function-is (turned_settled _ _ _ _ _ _ _ _ _ _ _ on (rw w.in-Settled.is at turns)
            w.function-function-in-Settled.ensures),
      )
    ]

pub loop-self-init : goal.loop-self-init
loop-self-init g c =
    let live = sym (ap (λ (s : SlotState). s.status) c.self.view_is) ∙ c.in-Live.is in (
      0,
      first_on _ _ _ _ (shown_goes_on _ _ _ _ c.requires.shows live) ((c.changes_join.ensures _).none _)
          c.used-used.ensures.tidy,
      refl,
      c.function-function.ensures,
    )

pub loop-self-smaller : goal.loop-self-smaller
loop-self-smaller g c = (turned g (goal.at.loop-self-smaller g c).After-used-used-in-loop-self).1.less

pub loop-self-preserved : goal.loop-self-preserved
loop-self-preserved g c =
    let turn = turned g (goal.at.loop-self-preserved g c).After-used-used-in-loop-self in
    (turn.0, turn.1.on, c.step_or_settle.ensures.desk ∙ c.loop-self.invariant.2, turn.1.inner)

pub returns-in-Over-clause-ran : goal.returns-in-Over-clause-ran
returns-in-Over-clause-ran g c =
    has_run _ _ _ _ _ _ _ _ _ c.loop-self.invariant.1 (rw c.in-Over.is at c.step_or_settle.ensures.turns)
