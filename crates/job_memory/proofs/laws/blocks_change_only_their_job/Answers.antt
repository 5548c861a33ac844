use Rattle.job_memory.proofs.Slots.{only_blocks}
use Rattle.job_memory.proofs.laws.blocks_change_only_their_job.Goals as goal

pub returns : goal.returns
returns c blocks job id words within empty =
    only_blocks job blocks _ (c.making_changes_only_own.ensures job blocks.memory id words within empty)
