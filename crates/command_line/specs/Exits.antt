-- The numbers that the program exits with if the command line gives no run.
use Rattle.std.specs.Prelude.{ℕ}
use Rattle.batch_front.specs.declared.fault.ScheduleFault.{ScheduleFault}
use Rattle.batch_front.specs.declared.fault.ScheduleFault.TheVariants.{Bad, Memory}
use Rattle.command_line.specs.declared.fault.LineFault.{LineFault}
use Rattle.command_line.specs.declared.fault.LineFault.TheVariants as line

abbrev pub line_exit_of : LineFault → ℕ
line_exit_of (line.Usage text) = 2
line_exit_of line.BadSchedule = 2
line_exit_of line.Memory = 3

-- the fault of a command line whose list is read so
abbrev pub line_fault_of : ScheduleFault → LineFault
line_fault_of Bad = line.BadSchedule
line_fault_of Memory = line.Memory
