use Rattle.refcounts.proofs.Changes.{changes_shares}
use Rattle.refcounts.proofs.laws.sharing_changes_only_own.Goals as goal

pub returns : goal.returns
returns c = changes_shares
