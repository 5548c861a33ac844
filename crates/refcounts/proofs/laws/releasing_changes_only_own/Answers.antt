use Rattle.refcounts.proofs.Changes.{changes_releases}
use Rattle.refcounts.proofs.laws.releasing_changes_only_own.Goals as goal

pub returns : goal.returns
returns c = changes_releases
