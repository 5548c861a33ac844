use Rattle.job_history.specs.Goals.{EndsKept}
use Rattle.std.specs.Prelude.{false}
use Rattle.job_history.proofs.history.History.find_kept.Given as goal

abbrev pub invariant-loop : goal.invariant-loop
invariant-loop g l = EndsKept false l.goal.stops.now l.goal.calls l.fn.self l.history
