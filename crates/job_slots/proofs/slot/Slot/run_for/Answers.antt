-- Each turn of the loop is a step of the job, or settles its track. After the last one its track is settled.
use Rattle.std.proofs.Common.{◌≡◌, ◌+◌, ◌∙◌, ◌<◌, ℕ, ap, arith, refl, sym}
use Rattle.std.proofs.lemmas.Bool.Decides.{nat_tests}
use Rattle.job_steps.specs.States.{ruled}
use Rattle.job_slots.specs.Slots.{SlotState}
use Rattle.job_slots.proofs.Standings.{HasTurned, first_on, has_run_for, has_run_on, shown_goes_on, turned_across}
use Rattle.job_slots.proofs.Standings.{turned_settled, turned_within}
use Rattle.job_slots.proofs.slot.Slot.run_for.Given.{Over}
use Rattle.job_slots.proofs.slot.Slot.run_for.Goals.{After-used-used-in-loop-left, in-Within, in-Across, in-Settled}
use Rattle.job_slots.proofs.slot.Slot.run_for.Goals as goal

-- and as many steps are left as the count leaves
turned : (g : Over) (c : After-used-used-in-loop-left g) → (steps : ℕ) × HasTurned c.args.turn.number
    (ruled c.args.turn.rule c.args.job.now) c.args.self.now c.args.blocks.now c.loop-left.function.now
    c.match-step_or_settle.function.now c.loop-left.self steps c.step_or_settle.new.self c.step_or_settle.new.blocks
    × (steps + c.match-step_or_settle.left ≡ c.args.count)
turned g c =
    let turns = c.step_or_settle.ensures.turns in
    let on = c.loop-left.invariant.1 in
    let all = c.loop-left.invariant.4 in
    let tidy = c.used-used-in-loop-left.ensures.tidy in
    elim c.match-step_or_settle.branch [
      | in-Within w ↦ (
        c.loop-left.invariant.0 + 1,
        rw w.function-is (turned_within _ _ _ _ _ _ _ _ _ _ _ on c.changes_join.ensures c.reached.ensures tidy
            (rw w.in-Within.is at turns) c.loop-left.invariant.3),
        grind (arith, nat_tests, c.loop-left-test.true, all, w.left-is),
      )
      | in-Across w ↦ (
        c.loop-left.invariant.0 + 1,
        rw w.function-is (turned_across _ _ _ _ _ _ _ _ _ _ _ on c.changes_join.ensures c.reached.ensures tidy
            (rw w.in-Across.is at turns) w.function-function-in-Across.ensures),
        grind (arith, nat_tests, c.loop-left-test.true, all, w.left-is),
      )
      | in-Settled w ↦ (
        c.loop-left.invariant.0,
        rw w.function-is (turned_settled _ _ _ _ _ _ _ _ _ _ _ on (rw w.in-Settled.is at turns)
            w.function-function-in-Settled.ensures),
        grind (arith, all, w.left-is),
      )
    ]

pub loop-left-init : goal.loop-left-init
loop-left-init g c =
    let live = sym (ap (λ (s : SlotState). s.status) c.self.view_is) ∙ c.in-Live.is in (
      0,
      first_on _ _ _ _ (shown_goes_on _ _ _ _ c.requires.shows live) ((c.changes_join.ensures _).none _)
          c.used-used.ensures.tidy,
      refl,
      c.function-function.ensures,
      omega arith,
    )

pub loop-left-smaller : goal.loop-left-smaller
loop-left-smaller g c = (turned g (goal.at.loop-left-smaller g c).After-used-used-in-loop-left).1.less

pub loop-left-preserved : goal.loop-left-preserved
loop-left-preserved g c =
    let turn = turned g (goal.at.loop-left-preserved g c).After-used-used-in-loop-left in
    (turn.0, turn.1.on, c.step_or_settle.ensures.desk ∙ c.loop-left.invariant.2, turn.1.inner, turn.2)

pub returns-in-Over-clause-ran : goal.returns-in-Over-clause-ran
returns-in-Over-clause-ran g c =
    let few : c.loop-left.invariant.0 < c.args.count =
    grind (arith, nat_tests, c.loop-left-test.true, c.loop-left.invariant.4) in
    let over = rw c.in-Over.is at c.step_or_settle.ensures.turns in
    λ live. has_run_for _ _ _ _ _ _ _ _ _ c.loop-left.invariant.1 c.args.count few over

pub returns-clause-ran : goal.returns-clause-ran
returns-clause-ran g c =
    let all : c.loop-left.invariant.0 ≡ c.args.count =
    grind (arith, nat_tests, c.loop-left-test.false, c.loop-left.invariant.4) in
    λ live. has_run_on c.loop-left.invariant.1 c.args.count all c.settle.new.self c.settle.ensures.live
    c.settle.ensures.same_count
