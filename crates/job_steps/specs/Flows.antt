-- How the calls of a job go on after an instruction.
use Rattle.std.specs.Prelude.{◌≡◌, Bool, false}
use Rattle.vcode_base.specs.declared.op.Op.{Op}
use Rattle.vcode_base.specs.declared.op.Op.TheVariants as op
use Rattle.job_steps.specs.declared.flow.Flow.{Flow}
use Rattle.job_steps.specs.declared.flow.Flow.TheVariants.{Next, Choose, Call, Return}
use Rattle.job_steps.specs.Questions.{Question}
use Rattle.job_steps.specs.Steps.{flag_of}

-- the flow of an instruction, if the flag of an IF is this
abbrev pub flow_by : Op → Bool → Flow
flow_by op.If flag = Choose flag
flow_by op.Call flag = Call
flow_by op.Return flag = Return
flow_by _ flag = Next

abbrev pub flow_of : Question → Flow
flow_of q = flow_by q.op (flag_of q)

-- whether the first part of an IF is chosen
abbrev pub choice : Flow → Bool
choice (Choose flag) = flag
choice _ = false

-- the innermost call goes on after an instruction
abbrev pub IsWithin : Op → Type 0
IsWithin op.Call = ⊥
IsWithin op.Return = ⊥
IsWithin _ = Unit {0}

-- an instruction can have this flow
abbrev pub IsFlowOf : Op → Flow → Type 0
IsFlowOf op flow = flow ≡ flow_by op (choice flow)
