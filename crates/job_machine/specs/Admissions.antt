-- What an admission answers, by the blocks and the slots of the jobs.
use Rattle.std.specs.Prelude.{ℕ, List, map}
use Rattle.vcode_base.specs.declared.rule.Rule.{Rule}
use Rattle.job_memory.specs.JobBlocks.{JobBlocks, granted_words}
use Rattle.job_steps.specs.Standings.{has_room, admission_from}
use Rattle.job_steps.specs.States.{JobValue, ruled}
use Rattle.job_slots.specs.Slots.{SlotState}
use Rattle.job_machine.specs.declared.machine.Admission.{Admission}
use Rattle.job_machine.specs.Machines.{any_waits, admission_by}
use Rattle.job_machine.specs.Sound.{standings_of}

abbrev pub next_by : Rule → JobBlocks → List JobValue → List SlotState → List ℕ → Admission
next_by rule blocks jobs slots passes =
    admission_by (any_waits (standings_of slots))
    (admission_from 1 (has_room blocks.memory.room (granted_words blocks)) (map (ruled rule) jobs) (standings_of slots)
    passes)
