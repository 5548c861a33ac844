use Rattle.std.proofs.Common.{◌∙◌, ap, sym}
use Rattle.batch_front.specs.ReportedJobs.{report_text, reported_status}
use Rattle.batch_front.specs.Reports.{report_of, ruled_entries, status_of}
use Rattle.batch_front.proofs.ReportedJobLemmas.{jobs_on, told_of}
use Rattle.batch_front.proofs.load.load.Goals as goal

pub returns-in_ok-machine-in-Jobs-clause-waiting : goal.returns-in_ok-machine-in-Jobs-clause-waiting
returns-in_ok-machine-in-Jobs-clause-waiting g c = (
  c.in_ok-machine-in-Jobs.ensures.all_wait,
  jobs_on c.in_ok-machine-in-Jobs.machine c.in_ok-machine-in-Jobs.reported.items c.from_vec.result
      (ruled_entries c.in-Jobs.rule c.in-Jobs.entries) c.from_vec.ensures c.in_ok-machine-in-Jobs.ensures.loaded,
)

pub returns-in_ok-machine-in-Jobs-clause-report : goal.returns-in_ok-machine-in-Jobs-clause-report
unfolding report_of
returns-in_ok-machine-in-Jobs-clause-report g c =
    ap (λ reported. report_text c.in_ok-machine-in-Jobs.machine.tasks reported) c.from_vec.ensures
    ∙ (told_of _ _ _ c.in_ok-machine-in-Jobs.ensures.loaded).report ∙ ap report_of (sym c.in-Jobs.is)

pub returns-in_ok-machine-in-Jobs-clause-status : goal.returns-in_ok-machine-in-Jobs-clause-status
unfolding status_of
returns-in_ok-machine-in-Jobs-clause-status g c =
    ap (λ reported. reported_status c.in_ok-machine-in-Jobs.machine.tasks reported) c.from_vec.ensures
    ∙ (told_of _ _ _ c.in_ok-machine-in-Jobs.ensures.loaded).status ∙ ap status_of (sym c.in-Jobs.is)
