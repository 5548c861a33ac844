use Rattle.refcounts.proofs.Changes.{changes_made}
use Rattle.refcounts.proofs.laws.making_changes_only_own.Goals as goal

pub returns : goal.returns
returns c = changes_made
