use Rattle.job_history.proofs.Kepts.{follows}
use Rattle.job_history.proofs.window.step_mirrored.Goals as goal

pub follow-requires : goal.follow-requires
follow-requires g c =
    let next = c.in_ok-next.ensures in follows c.requires.mirrors c.requires.on next.gone next.one next.next
