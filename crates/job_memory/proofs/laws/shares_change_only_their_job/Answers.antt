use Rattle.job_memory.proofs.Slots.{only_blocks}
use Rattle.job_memory.proofs.laws.shares_change_only_their_job.Goals as goal

pub returns : goal.returns
returns c blocks job ids own =
    only_blocks job blocks _ (c.sharing_changes_only_own.ensures job blocks.memory ids own)
