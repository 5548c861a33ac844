-- Jobs, each with a rule.
use Rattle.std.proofs.Common.{◌≡◌, List, [], ◌∷◌, max, map, refl, sym, ◌∙◌, ap, ℕ, fold}
use Rattle.std.proofs.lemmas.List.Folds.{fold-map}
use Rattle.vcode_base.specs.declared.rule.Rule.{Rule}
use Rattle.job_steps.specs.States.{JobValue, Task, ruled}
use Rattle.job_machine.specs.Machines.{most_words}

-- a task without its rule
abbrev job_of : Task → JobValue
job_of task = record { name = task.name; verified = task.verified; limits = task.limits }

without_rule : (rule : Rule) (jobs : List JobValue) → map job_of (map (ruled rule) jobs) ≡ jobs
without_rule rule [] = refl
without_rule rule (job ∷ jobs) = ap (λ (js : List JobValue). job ∷ js) (without_rule rule jobs)

-- jobs are equal if they are with one rule
pub same_without : (rule : Rule) (xs ys : List JobValue) → map (ruled rule) xs ≡ map (ruled rule) ys → xs ≡ ys
same_without rule xs ys same =
    sym (without_rule rule xs) ∙ (ap (λ (ts : List Task). map job_of ts) same ∙ without_rule rule ys)

-- the most words of jobs
pub most_ruled : (rule : Rule) (jobs : List JobValue) → fold (λ (most : ℕ) (job : JobValue). max most job.limits.words)
    0 jobs ≡ most_words (map (ruled rule) jobs)
most_ruled rule jobs = sym (fold-map (λ (most : ℕ) (task : Task). max most task.limits.words) (ruled rule) 0 jobs)
