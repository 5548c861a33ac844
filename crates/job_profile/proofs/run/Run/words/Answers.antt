use Rattle.std.proofs.Common.{ℕ, ℤ, List, Some, sym, ◌∙◌, ap}
use Rattle.refcounts.specs.SharedState.{IsLive}
use Rattle.job_profile.proofs.Shown.{all_at, list_at}
use Rattle.job_profile.proofs.run.Run.words.Goals as goal

pub words-requires : goal.words-requires
words-requires g c =
    all_at (λ (i : ℕ). IsLive c.self.inside.blocks.memory i) c.self.inside.slot.trace.cells c.args.depth _
    (c.shown_are_live.ensures 1 _ _ _ c.self.invariant.shows) (sym c.cell.ensures ∙ c.in_ok-id.was)

pub returns : goal.returns
returns g c =
    ap (λ (l : List ℤ). Some l) c.words.ensures
    ∙ list_at c.self.invariant c.self.view_is c.goes_on.ensures c.if-not-goes_on.false c.shown_are_reached.ensures
    c.args.depth (sym c.cell.ensures ∙ c.in_ok-id.was)
