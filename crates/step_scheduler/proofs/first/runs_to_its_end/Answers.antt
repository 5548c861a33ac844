use Rattle.std.proofs.Common.{refl}
use Rattle.step_scheduler.specs.Tallies.{Continues}
use Rattle.step_scheduler.proofs.CountLemmas.{continues_by, continues_on, words_on}
use Rattle.step_scheduler.proofs.first.runs_to_its_end.Given.{Over}
use Rattle.step_scheduler.proofs.first.runs_to_its_end.Goals as goal
use Rattle.step_scheduler.proofs.first.runs_to_its_end.Goals.{After-recall_all}

recalled : (g : Over) (c : After-recall_all g) → Continues c.args.machine.now c.recall_all.new.self
recalled g c =
    continues_by c.count_laws.ensures.kept c.args.machine.now c.recall_all.new.self
    (record { verified = c.jobs-jobs.ensures.verified; kept = c.jobs-jobs.ensures.kept }) c.recall_all.ensures.leads

pub run_job-requires-clause-words : goal.run_job-requires-clause-words
run_job-requires-clause-words g c =
    words_on c.args.machine.now c.recall_all.new.self c.args.desk.now c.args.desk.now
    (recalled g (goal.at.run_job-requires-clause-words g c).After-recall_all) refl c.requires

pub returns-clause-continues : goal.returns-clause-continues
returns-clause-continues g c =
    continues_on _ _ _ (recalled g (goal.at.returns-clause-continues g c).After-recall_all)
    (continues_by c.count_laws.ensures.kept c.recall_all.new.self c.run_job.new.self
    (record { verified = c.jobs-jobs-2.ensures.verified; kept = c.jobs-jobs-2.ensures.kept })
    c.run_job.ensures.goes_on.leads)
