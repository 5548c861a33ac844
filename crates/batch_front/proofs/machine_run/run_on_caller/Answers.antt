use Rattle.batch_front.proofs.LoadedLemmas.{jobs_out}
use Rattle.batch_front.proofs.machine_run.run_on_caller.Goals as goal

pub returns-in_ok-run_by_turns-in-Jobs : goal.returns-in_ok-run_by_turns-in-Jobs
returns-in_ok-run_by_turns-in-Jobs g c =
    let waiting = rw c.in-Jobs.is at c.requires in
    let ran = c.in_ok-run_by_turns-in-Jobs.ensures in
    rw c.in-Jobs.is (jobs_out c.in-Jobs.machine c.run_by_turns.new.machine c.in-Jobs.reported waiting ran.tasks ran.out)
