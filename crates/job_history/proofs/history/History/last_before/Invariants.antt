use Rattle.std.proofs.Common.{◌≡◌}
use Rattle.job_history.specs.Goals.{IsLast}
use Rattle.job_history.specs.Places.{Place, moved_to}
use Rattle.job_history.proofs.history.History.last_before.Given as goal

pub record IsPast (stops : _) (calls : _) (old : Place) (n : _) (last : _) (new : Place) : Type 0 where
  pub at : new ≡ moved_to old n
  pub met : IsLast last stops calls old.task n

abbrev pub invariant-loop-number : goal.invariant-loop-number
invariant-loop-number g l = IsPast l.goal.stops.now l.goal.calls l.fn.self l.number l.last l.history
