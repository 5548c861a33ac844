use Rattle.std.proofs.Common.{◌≡◌, ◌≤◌}
use Rattle.verifier.specs.Kept.{whole_list}
use Rattle.verifier.proofs.open_ifs.BeginList.take_over_above.Given as goal

abbrev pub invariant-loop-self : goal.invariant-loop-self
invariant-loop-self g l = record {
  same : whole_list l.kinds l.self ≡ whole_list l.kinds l.initial.self;
  fewer : l.self.shared ≤ l.initial.self.shared;
}

abbrev pub decreases-loop-self : goal.decreases-loop-self
decreases-loop-self g l = l.self.shared
