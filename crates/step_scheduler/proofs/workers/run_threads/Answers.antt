use Rattle.std.proofs.Common.{arith}
use Rattle.step_scheduler.proofs.workers.run_threads.Goals as goal

pub new-requires-2 : goal.new-requires-2
new-requires-2 g c = let same = c.count_laws.ensures.recalls c.args.machine in grind arith
