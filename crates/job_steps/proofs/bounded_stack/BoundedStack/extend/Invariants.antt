use Rattle.std.proofs.Common.{◌≡◌, ◌++◌, reverse, take}
use Rattle.job_steps.proofs.bounded_stack.BoundedStack.extend.Given as goal

abbrev pub invariant-loop-entry : goal.invariant-loop-entry
invariant-loop-entry g l =
    l.self ≡ record l.fn.self { entries = reverse (take l.entry-index l.entries) ++ l.fn.self.entries }
