-- The instruction without its list and without the name that it calls.
use Rattle.vcode_base.specs.declared.op.Op.{Op}
use Rattle.vcode_base.specs.declared.op.Op.TheVariants as op
use Rattle.vcode_base.specs.declared.instr.Instr.{Instr}
use Rattle.vcode_base.specs.declared.instr.Instr.TheVariants.{Const, Elementwise, Segmented, If, Move, Call, Return}

abbrev pub op_of : {L N : Type 0} → Instr L N → Op
op_of (Const k list) = op.Const k
op_of (Elementwise e) = op.Elementwise e
op_of (Segmented s) = op.Segmented s
op_of If = op.If
op_of (Move motion lower upper) = op.Move motion lower upper
op_of (Call name) = op.Call
op_of Return = op.Return
