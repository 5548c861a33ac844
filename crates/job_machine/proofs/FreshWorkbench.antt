-- A desk for each job, when no step has begun.
use Rattle.std.proofs.Common.{arith, ◌≡◌, ℕ, zero, suc, ◌<◌, false, List, [], ◌∷◌, ◌++◌, length, map, take, get_or}
use Rattle.std.proofs.Common.{slice_get, option_map, Some, refl, sym, ◌∙◌, ap, subst}
use Rattle.std.proofs.Math.Seq.{take-suc}
use Rattle.std.proofs.lemmas.List.{map-append, length-map}
use Rattle.std.proofs.lemmas.Simd.{map-map}
use Rattle.std.proofs.lemmas.Option.{none-some, same_Some, slice_get-map}
use Rattle.vcode_base.specs.declared.rule.Rule.{Rule}
use Rattle.job_steps.specs.Events.{recalled_standing}
use Rattle.job_steps.specs.Standings.{Standing, of_job}
use Rattle.job_steps.specs.States.{JobValue, Task, ruled}
use Rattle.job_slots.specs.Answers.{is_in_flight}
use Rattle.job_machine.specs.declared.workbench.Workplace.{Workplace}
use Rattle.job_machine.specs.declared.workbench.Workplace.TheVariants as workplace
use Rattle.job_machine.specs.Machines.{MachineState, recalled}
use Rattle.job_machine.specs.Workbench.{WorkplaceFits, FitsIn, WorkbenchFits}
use Rattle.job_machine.proofs.Places.{beside_at}

-- a desk for each job, of its words
abbrev pub fresh : {A : Type 0} → List Task → List (Workplace A)
fresh tasks = map (λ task. workplace.Free task.limits.words) tasks

-- the same, as the jobs tell it
abbrev pub fresh_jobs : {A : Type 0} → List JobValue → List (Workplace A)
fresh_jobs jobs = map (λ job. workplace.Free job.limits.words) jobs

pub fresh-ruled : {A : Type 0} (rule : Rule) (jobs : List JobValue) →
    fresh_jobs {A = A} jobs ≡ fresh (map (ruled rule) jobs)
fresh-ruled rule jobs = sym (map-map (λ (task : Task). workplace.Free task.limits.words) (ruled rule) jobs)

-- one desk more
pub fresh_more : {A : Type 0} (jobs : List JobValue) (workbench after : List (Workplace A)) (place next desk : ℕ)
    (job : JobValue) → next ≡ suc place → place < length jobs → job ≡ get_or jobs place job →
    workbench ≡ fresh_jobs (take place jobs) → desk ≡ job.limits.words → after ≡ workbench ++ workplace.Free desk ∷ [] →
    after ≡ fresh_jobs (take next jobs)
fresh_more {A} jobs workbench after place next desk job next_is within job_is workbench_is desk_is after_is =
    let words_of : JobValue → Workplace A = λ job. workplace.Free job.limits.words in
    rw (after_is, workbench_is, next_is, take-suc jobs place job within, map-append words_of, ← job_is, desk_is)

rests : (s : Standing) → is_in_flight (recalled_standing s) ≡ false
rests s = grind arith

fresh_at : {A : Type 0} (tasks : List Task) (i : ℕ) (h : Workplace A) → slice_get (fresh tasks) i ≡ Some h →
    (task : Task) × (slice_get tasks i ≡ Some task) × (workplace.Free task.limits.words ≡ h)
fresh_at [] i h is = absurd (none-some h is)
fresh_at (task ∷ tasks) zero h is = (task, refl, same_Some (workplace.Free task.limits.words) h is)
fresh_at (task ∷ tasks) (suc i) h is = fresh_at tasks i h is

fresh_fits : {A : Type 0} (m : MachineState) → length m.standings ≡ length m.tasks → (job : ℕ) (h : Workplace A) →
    of_job job (fresh m.tasks) ≡ Some h → FitsIn (recalled m) job h
fresh_fits m same zero h is = absurd (none-some h is)
fresh_fits m same (suc i) h is =
    let t = fresh_at m.tasks i h is in
    let s = beside_at m.tasks m.standings same i t.0 t.1 in
    record {
      task = t.0;
      standing = recalled_standing s.0;
      task_is = t.1;
      standing_is = slice_get-map recalled_standing m.standings i ∙ ap (option_map recalled_standing) s.1;
      fits = subst (WorkplaceFits (suc i) t.0 (recalled_standing s.0)) t.2 (refl, rests s.0);
    }

pub fresh_fit : {A : Type 0} (m : MachineState) (workbench : List (Workplace A)) → length m.standings ≡ length m.tasks →
    workbench ≡ fresh m.tasks → WorkbenchFits (recalled m) workbench
fresh_fit {A} m workbench same workbench_is = grind (arith, length-map, fresh_fits)
