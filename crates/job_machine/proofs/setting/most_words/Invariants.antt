use Rattle.std.proofs.Common.{◌≡◌, ◌≤◌, max, take, All, fold}
use Rattle.vcode_base.specs.declared.limits.TheConstants.{MOST_WORDS}
use Rattle.job_machine.proofs.setting.most_words.Given as goal

abbrev pub invariant-loop-job : goal.invariant-loop-job
invariant-loop-job g l = record {
  value : l.most ≡ fold (λ most job. max most job.limits.words) 0 (take l.job-index l.jobs);
  each : All (λ job. job.limits.words ≤ l.most) (take l.job-index l.jobs);
  within : l.most ≤ MOST_WORDS;
}
