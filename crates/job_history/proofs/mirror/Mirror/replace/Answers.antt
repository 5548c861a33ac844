use Rattle.std.proofs.Common.{[], arith}
use Rattle.job_profile.specs.Walks.{lists_in, progress_of}
use Rattle.job_history.proofs.Mirrors.{long_lists, put_on, replaced}
use Rattle.job_history.proofs.mirror.Mirror.replace.Goals as goal

pub loop-done-init : goal.loop-done-init
loop-done-init g c =
    let p = progress_of c.args.walk.now.run in
    replaced c.args.self.now.entries.items c.args.operands c.requires.0 (lists_in p) c.saturating_sub-left.result
    c.saturating_sub-results.result c.truncate.new.self.items c.requires.1
    (omega (arith, c.saturating_sub-left.ensures, c.len.ensures))
    (omega (arith, c.saturating_sub-results.ensures, c.depth.ensures, long_lists p)) c.truncate.ensures.items

pub loop-done-preserved : goal.loop-done-preserved
loop-done-preserved g c =
    let p = progress_of c.args.walk.now.run in
    put_on (lists_in p) c.loop-done.self.entries.items c.push.new.self.entries.items c.saturating_sub-results.result
    c.loop-done.done [] c.loop-done-test.true
    (omega (arith, c.saturating_sub-results.ensures, c.depth.ensures, long_lists p)) c.loop-done.invariant
    c.in_ok-push.ensures
