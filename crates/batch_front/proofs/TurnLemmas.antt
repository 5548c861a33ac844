-- The turns of jobs, one after another.
use Rattle.std.proofs.Common.{◌≡◌, ℕ, ◌+◌, ◌<◌, List, [], ◌∷◌, ◌++◌, length, take, get_or}
use Rattle.std.proofs.Common.{refl, sym, ap, subst, ◌∙◌, arith}
use Rattle.std.proofs.lemmas.List.{take_more}
use Rattle.vcode_base.specs.declared.rule.Rule.{Rule}
use Rattle.job_steps.specs.declared.event.Event.TheVariants as event
use Rattle.job_steps.specs.Events.{recalled_standings}
use Rattle.job_steps.specs.Standings.{Waiting, first_standings, first_queue}
use Rattle.job_steps.specs.States.{Task}
use Rattle.job_machine.specs.declared.workbench.Workplace.{Workplace}
use Rattle.job_machine.specs.Workbench.{WorkbenchFits}
use Rattle.job_machine.specs.Machines.{MachineState, HasNoStep, machine_after, recalled, with_queue}
use Rattle.batch_front.specs.declared.schedule.Item.{Item}
use Rattle.batch_front.specs.ReportedJobs.{ReportedJob}
use Rattle.batch_front.specs.Turns.{after_admissions, after_item, after_items}

-- ---- a machine that was just made

waiting : (tasks : List Task) → recalled_standings (first_standings tasks) ≡ first_standings tasks
waiting [] = refl
waiting (task ∷ tasks) = ap (λ standings. Waiting ∷ standings) (waiting tasks)

pub all_wait : (m : MachineState) (rule : Rule) (region : ℕ) (tasks : List Task)
    → m ≡ record {
      rule = rule;
      region = region;
      tasks = tasks;
      standings = first_standings tasks;
      passes = (first_queue tasks).passes;
    }
    → m.standings ≡ first_standings m.tasks
all_wait m rule region tasks e = grind arith

no_step_first : (m : MachineState) → m.standings ≡ first_standings m.tasks → HasNoStep m
no_step_first m e = ap recalled_standings e ∙ waiting m.tasks ∙ sym e

-- if no step has begun, none is given up
pub workbench_fits : {A : Type 0} (m : MachineState) (workbench : List (Workplace A))
    → m.standings ≡ first_standings m.tasks
    → WorkbenchFits (recalled m) workbench → WorkbenchFits m workbench
workbench_fits m workbench wait h =
    subst (λ standings. WorkbenchFits (with_queue m (record { standings = standings; passes = m.passes })) workbench)
    (no_step_first m wait) h

-- ---- one more

pub admissions_with : (n next : ℕ) (m now new : MachineState) → next ≡ n + 1 → now ≡ after_admissions n m
    → new ≡ machine_after event.Admit now → new ≡ after_admissions next m
admissions_with n next m now new one e f = grind arith

after_more : (reported : List ReportedJob) (items : List Item) (last : Item) (m : MachineState)
    → after_items reported (items ++ last ∷ []) m ≡ after_item reported last (after_items reported items m)
after_more reported [] last m = refl
after_more reported (item ∷ items) last m = after_more reported items last (after_item reported item m)

pub items_with : (reported : List ReportedJob) (items : List Item) (n next : ℕ) (any : Item) (m now new : MachineState)
    → next ≡ n + 1 → n < length items → now ≡ after_items reported (take n items) m
    → new ≡ after_item reported (get_or items n any) now → new ≡ after_items reported (take next items) m
items_with reported items n next any m now new one l e f =
    grind (arith, take_more items n any, after_more reported (take n items) (get_or items n any) m)
