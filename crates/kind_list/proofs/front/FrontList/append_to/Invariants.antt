use Rattle.std.proofs.Common.{◌≡◌, ◌++◌, length}
use Rattle.kind_list.proofs.front.FrontList.append_to.Given as goal

abbrev pub invariant-loop-chunk : goal.invariant-loop-chunk
invariant-loop-chunk g l = l.kinds ++ l.self ≡ l.initial.kinds ++ l.initial.self

abbrev pub decreases-loop-chunk : goal.decreases-loop-chunk
decreases-loop-chunk g l = length l.self
