use Rattle.std.proofs.Common.{arith}
use Rattle.job_steps.proofs.Turns.{shifted_copy, shifted_pop, shifted_top}
use Rattle.job_steps.proofs.bounded_stack.BoundedStack.shift.Goals as goal

pub returns-in-Copy : goal.returns-in-Copy
returns-in-Copy g c =
    rw c.in-Copy.is (shifted_copy c.args.self.now c.self.inside.entries.items c.copy_lower.new.entries.items _
    c.self.view_is c.args.lower c.args.upper c.len.result c.requires.there
    (omega (arith, c.len.ensures)) c.copy_lower.ensures.items)

pub returns-in-Pop : goal.returns-in-Pop
returns-in-Pop g c =
    rw c.in-Pop.is (shifted_pop c.args.self.now c.self.inside.entries.items c.remove_range.new.entries.items _
    c.self.view_is c.args.lower c.args.upper c.len.result c.requires.there
    (omega (arith, c.len.ensures)) c.remove_range.ensures.items)

pub returns-in-MoveToTop : goal.returns-in-MoveToTop
returns-in-MoveToTop g c =
    rw c.in-MoveToTop.is (shifted_top c.args.self.now c.self.inside.entries.items c.turn.new.entries.items _
    c.self.view_is c.args.lower c.args.upper c.len.result c.requires.there
    (omega (arith, c.len.ensures)) c.turn.ensures.items)
