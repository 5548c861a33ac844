use Rattle.std.proofs.Common.{ℕ, length, ◌∙◌, ap}
use Rattle.job_steps.specs.Tracks.{TrackState}
use Rattle.job_profile.proofs.Shown.{calls_at}
use Rattle.job_profile.proofs.run.Run.calls.Goals as goal

pub returns-then-goes_on : goal.returns-then-goes_on
returns-then-goes_on g c =
    c.calls.ensures.calls ∙ ap (λ (t : TrackState ℕ). length t.frames) c.track.ensures
    ∙ calls_at c.self.invariant c.self.view_is c.goes_on.ensures c.if-goes_on.true
