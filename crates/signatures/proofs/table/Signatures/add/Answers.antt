use Rattle.std.proofs.Common.{◌∙◌, sym}
use Rattle.signatures.proofs.TableLemmas.{added}
use Rattle.signatures.proofs.table.Signatures.add.Goals as goal

pub returns-clause-added : goal.returns-clause-added
returns-clause-added g c =
    added _ _ _ c.in_ok-owned.owned c.args.kinds c.args.name.now _ c.self.view_is c.in_ok-owned.ensures.items
    (sym c.is_too_large.ensures ∙ c.if-is_too_large.false) c.contains_key.ensures c.if-contains_key.false
    c.in_ok-insert.ensures.entries
