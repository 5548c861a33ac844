use Rattle.std.proofs.Common.{ℤ, List, [], length, sym, ap}
use Rattle.job_profile.specs.Walks.{lists_in, progress_of}
use Rattle.job_profile.proofs.Lists.{missing_at}
use Rattle.job_profile.proofs.run.Run.length.Goals as goal

pub returns-in-None : goal.returns-in-None
returns-in-None g c =
    let none = sym (rw c.in-None.is at c.words.ensures) in
    ap (λ (l : List ℤ). length l) (sym (missing_at (lists_in (progress_of c.args.self.now)) c.args.depth [] none))
