use Rattle.job_history.proofs.Searches.{IsSearched}
use Rattle.job_history.proofs.history.History.find_next.Given as goal

abbrev pub invariant-loop : goal.invariant-loop
invariant-loop g l = IsSearched l.goal.stops.now l.goal.calls l.counter l.fn.self l.history
