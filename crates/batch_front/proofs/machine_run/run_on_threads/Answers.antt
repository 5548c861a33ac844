use Rattle.batch_front.proofs.LoadedLemmas.{jobs_out}
use Rattle.batch_front.proofs.machine_run.run_on_threads.Goals as goal
use Rattle.batch_front.proofs.machine_run.run_on_threads.Goals.{then-options-gt1+in_ok-machine-in-Jobs}
use Rattle.batch_front.proofs.machine_run.run_on_threads.Goals.{else-options-gt1+in_ok-machine-in-Jobs-2}

pub returns-after-options-gt1-clause-out : goal.returns-after-options-gt1-clause-out
returns-after-options-gt1-clause-out g c =
    let waiting = rw c.in-Jobs.is at c.requires in
    let out = jobs_out c.in-Jobs.machine c.if-options-gt1.machine c.in-Jobs.reported waiting in
    let same = c.jobs-jobs.ensures.kept.same_length in
    rw c.in-Jobs.is
    (elim c.if-options-gt1.branch [
      | then-options-gt1+in_ok-machine-in-Jobs w ↦ let ran = w.in_ok-machine-in-Jobs.ensures in
          out (rw w.machine-is ran.jobs) (record { same_length = same; collected = rw w.machine-is ran.collected })
      | else-options-gt1+in_ok-machine-in-Jobs-2 w ↦ let ran = w.in_ok-machine-in-Jobs-2.ensures in
          out (rw w.machine-is ran.jobs) (record { same_length = same; collected = rw w.machine-is ran.collected })
    ])
