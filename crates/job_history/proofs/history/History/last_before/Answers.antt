use Rattle.std.proofs.Common.{ℕ, refl, sym, ◌∙◌, ap, arith, subst}
use Rattle.job_history.specs.Goals.{IsLast, meets}
use Rattle.job_history.specs.Places.{Place, moved_to, state_at}
use Rattle.job_history.proofs.Searches.{last_more, missed_none, next_place, same_place}
use Rattle.job_history.proofs.history.History.last_before.Goals as goal

pub loop-number-init : goal.loop-number-init
loop-number-init g c = record {
  at = same_place c.args.self (moved_to c.args.self 0) refl c.requires.first;
  met = missed_none c.args.goal.now.stops.now c.args.goal.now.calls c.args.self.task 0 0 (omega arith);
}

pub loop-number-preserved : goal.loop-number-preserved
loop-number-preserved g c =
    let stops = c.args.goal.now.stops.now in
    let calls = c.args.goal.now.calls in
    record {
      at = next_place c.args.self c.loop-number.history c.in_ok-history.history c.loop-number.number c.args.end
          c.loop-number.invariant.at c.requires.on c.loop-number-test.true c.in_ok-history.ensures;
      met = last_more stops calls c.args.self c.args.self.task c.loop-number.last c.last_met-last.result
          c.loop-number.number c.meets.result c.loop-number.invariant.met
          (ap (λ (p : Place). meets stops calls (state_at p)) (sym c.loop-number.invariant.at) ∙ sym c.meets.ensures)
          c.last_met-last.ensures;
    }

pub returns-clause-last : goal.returns-clause-last
returns-clause-last g c =
    subst (λ (n : ℕ). IsLast c.loop-number.last c.args.goal.now.stops.now c.args.goal.now.calls c.args.self.task n)
    (omega (arith, c.loop-number.auto.number-end, c.loop-number-test.false)) c.loop-number.invariant.met
