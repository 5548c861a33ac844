use Rattle.std.proofs.Common.{◌≡◌, ◌-◌, drop}
use Rattle.std.specs.Prelude.{reverse}
use Rattle.job_profile.specs.Walks.{lists_in, progress_of}
use Rattle.job_history.proofs.mirror.Mirror.replace.Given as goal

abbrev pub invariant-loop-done : goal.invariant-loop-done
invariant-loop-done g l =
    reverse l.self.entries.items ≡ drop (l.results - l.done) (lists_in (progress_of l.walk.run))
