use Rattle.std.proofs.Common.{arith}
use Rattle.vcode_base.specs.declared.op.StackMove.TheVariants.{Copy, Pop, MoveToTop}
use Rattle.job_history.proofs.Motions.{copied, removed, shifted}
use Rattle.job_history.proofs.mirror.shift.Goals as goal

pub returns-in_ok-copy_lower-in-Copy : goal.returns-in_ok-copy_lower-in-Copy
returns-in_ok-copy_lower-in-Copy g c =
    let xs = c.args.entries.now.items in
    rw c.in-Copy.is (shifted xs c.args.lower c.args.upper _ c.len-depth.result Copy c.requires
    (omega (arith, c.len-depth.ensures)) (copied xs c.args.lower c.args.upper _ _ c.in_ok-copy_lower-in-Copy.ensures))

pub returns-in-Pop : goal.returns-in-Pop
returns-in-Pop g c =
    let xs = c.args.entries.now.items in
    rw c.in-Pop.is (shifted xs c.args.lower c.args.upper _ c.len-depth.result Pop c.requires
    (omega (arith, c.len-depth.ensures)) (removed xs c.args.lower c.args.upper c.turn.new.entries.items _
    c.len-depth.result c.requires (omega (arith, c.len-depth.ensures)) c.turn.ensures c.truncate.ensures.items))

pub returns-in-MoveToTop : goal.returns-in-MoveToTop
returns-in-MoveToTop g c =
    rw c.in-MoveToTop.is (shifted c.args.entries.now.items c.args.lower c.args.upper
    c.turn-in-MoveToTop.new.entries.items c.len-depth.result MoveToTop c.requires
    (omega (arith, c.len-depth.ensures)) c.turn-in-MoveToTop.ensures)
