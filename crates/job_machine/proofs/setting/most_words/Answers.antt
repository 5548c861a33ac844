use Rattle.std.proofs.Common.{arith}
use Rattle.std.proofs.lemmas.Grind.{common_steps}
use Rattle.job_machine.proofs.WordLemmas.{more_within, most_more}
use Rattle.job_machine.proofs.setting.most_words.Goals as goal

pub loop-job-preserved : goal.loop-job-preserved
loop-job-preserved g c =
    let inv = c.loop-job.invariant in
    let job = c.job-item.result in
    record {
      value = most_more c.args.jobs.now c.loop-job.job-index c.loop-job.most c.max-most.result job
          (grind (arith, common_steps)) inv.value (grind (arith, common_steps));
      each = more_within c.args.jobs.now c.loop-job.job-index c.loop-job.most c.max-most.result job
          (grind (arith, common_steps)) inv.each (grind (arith, common_steps)) (grind (arith, common_steps));
      within = grind (arith, common_steps);
    }
