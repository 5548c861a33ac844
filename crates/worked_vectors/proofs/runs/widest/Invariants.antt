use Rattle.std.proofs.Common.{take}
use Rattle.job_steps.specs.Buffers.{HaveAtMost}
use Rattle.vcode_base.specs.Operands.{contents}
use Rattle.worked_vectors.proofs.runs.widest.Given as goal

abbrev pub invariant-loop-operand : goal.invariant-loop-operand
invariant-loop-operand l = HaveAtMost l.most (contents (take l.operand-index l.ops))
