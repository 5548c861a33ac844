use Rattle.std.proofs.Common.{◌≡◌, ◌∙◌, Some, rules}
use Rattle.job_steps.specs.Standings.{executed_at, of_job, peak_at}
use Rattle.job_machine.specs.Machines.{outcome_in, told}
use Rattle.batch_front.proofs.PageLemmas.{puts_same, puts_then}
use Rattle.batch_front.proofs.RunLemmas.{executed_told, outcome_told, peak_told, told_as}
use Rattle.batch_front.proofs.reported_jobs.put_told.Goals as goal

pub returns : goal.returns
returns g c =
    let m = c.args.machine.now in
    let ending : Some c.unwrap-outcome.result.now ≡ outcome_in c.args.job m = search rules in
    let executed : Some c.unwrap-instructions.result ≡ told executed_at c.args.job m = search rules in
    let peak : Some c.unwrap-words.result ≡ told peak_at c.args.job m = search rules in
    puts_same (puts_then c.put_outcome.ensures c.put_used.ensures)
    (told_as (of_job c.args.job m.tasks) c.unwrap-outcome.result.now c.unwrap-instructions.result c.unwrap-words.result
    c.requires.there (ending ∙ outcome_told m c.args.job c.requires.out)
    (executed ∙ executed_told m c.args.job c.requires.out) (peak ∙ peak_told m c.args.job c.requires.out))
