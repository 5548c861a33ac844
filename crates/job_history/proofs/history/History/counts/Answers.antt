use Rattle.job_history.proofs.Gone.{come_to}
use Rattle.job_history.proofs.history.History.counts.Goals as goal

pub returns-in-Some : goal.returns-in-Some
returns-in-Some g c =
    let shows = c.in-Some.ensures _ c.self.invariant.are_kept in
    rw (← c.self.view_is, c.counts.ensures) shows.counts

pub returns-in-None : goal.returns-in-None
returns-in-None g c =
    let come = come_to c.self.invariant.run_at (c.in-None.ensures _ c.self.invariant.are_kept) in
    rw (← c.self.view_is, ← come) c.of.ensures
