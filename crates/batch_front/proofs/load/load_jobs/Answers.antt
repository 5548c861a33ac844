use Rattle.std.proofs.Common.{◌∙◌, ap}
use Rattle.batch_front.specs.ReportedJobs.{tasks_of}
use Rattle.batch_front.proofs.ReportedJobLemmas.{loaded_by, tasks_few, tasks_fit}
use Rattle.batch_front.proofs.TurnLemmas.{all_wait}
use Rattle.batch_front.proofs.load.load_jobs.Goals as goal

pub new-requires-clause-jobs : goal.new-requires-clause-jobs
new-requires-clause-jobs g c =
    tasks_few c.args.entries c.reported_jobs.new.jobs.items _ (c.in_ok-reported.ensures.jobs
    ∙ ap tasks_of c.into_vec.ensures)
    c.requires.few

pub new-requires-clause-words : goal.new-requires-clause-words
new-requires-clause-words g c =
    rw (c.in_ok-reported.ensures.jobs ∙ ap tasks_of c.into_vec.ensures)
    (tasks_fit c.args.options.now.region c.args.entries c.requires.fits)

pub returns-clause-loaded : goal.returns-clause-loaded
returns-clause-loaded g c =
    loaded_by c.args.rule c.in_ok-machine.machine.tasks c.reported_jobs.new.jobs.items c.in_ok-reported.reported.items _
    c.args.entries
    (ap (λ m. m.tasks) c.in_ok-machine.ensures) c.into_vec.ensures c.in_ok-reported.ensures.reported
    c.in_ok-reported.ensures.jobs

pub returns-clause-all_wait : goal.returns-clause-all_wait
returns-clause-all_wait g c = all_wait _ _ _ _ c.in_ok-machine.ensures
