use Rattle.job_history.proofs.history.History.to_kept.Goals as goal

pub invariant_of-history : goal.invariant_of-history
invariant_of-history g c = record {
  run_at = c.self.invariant.run_at;
  are_kept = c.self.invariant.are_kept;
  has = (c.reaches.ensures c.if-reaches.true).1;
}
