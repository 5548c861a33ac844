-- The greatest words of jobs.
use Rattle.std.proofs.Common.{◌≡◌, ℕ, ◌+◌, ◌<◌, ◌≤◌, max, List, take, get_or, length, All, arith, fold}
use Rattle.std.proofs.lemmas.List.Elements.{All-more, All-weaker}
use Rattle.std.proofs.lemmas.List.Sums.{fold_more}
use Rattle.job_steps.specs.States.{JobValue}

-- one more job, whose words are no more than the new number, which is no less than the old one
pub more_within : (jobs : List JobValue) (place old new : ℕ) (any : JobValue) → place < length jobs →
    All (λ job. job.limits.words ≤ old) (take place jobs) → old ≤ new → (get_or jobs place any).limits.words ≤ new →
    All (λ job. job.limits.words ≤ new) (take (place + 1) jobs)
more_within jobs place old new any within all no_less fits =
    All-more (λ job. job.limits.words ≤ new) jobs place any within
    (All-weaker (λ job. job.limits.words ≤ old) (λ job. job.limits.words ≤ new) (λ job k. omega (arith, no_less, k))
    (take place jobs) all) fits

-- the most words of one more job: the greater of the most before it and its own
pub most_more : (jobs : List JobValue) (place old new : ℕ) (any : JobValue) → place < length jobs → old ≡ fold (λ most
    job. max most job.limits.words) 0 (take place jobs) → new ≡ max old (get_or jobs place any).limits.words → new ≡
    fold (λ most job. max most job.limits.words) 0 (take (place + 1) jobs)
most_more jobs place old new any within so_far greater = grind (arith, fold_more)
