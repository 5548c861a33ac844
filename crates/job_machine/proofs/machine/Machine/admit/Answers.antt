-- What is answered is the admission of the definitions, and the job that is admitted takes its turn by it.
use Rattle.std.proofs.Common.{◌≡◌, ◌-◌, length, ap, sym, refl, ◌∙◌, arith}
use Rattle.std.proofs.lemmas.List.{length-map, with_items_is}
use Rattle.std.specs.Arc.{arc_value}
use Rattle.std.specs.Vec.{with_items}
use Rattle.job_steps.specs.Standings.{passes_before}
use Rattle.job_steps.specs.States.{ruled}
use Rattle.job_machine.specs.Machines.{admission_in}
use Rattle.job_machine.specs.Sound.{standings_of}
use Rattle.job_machine.proofs.Admitting.{answer_is, nobody_state, IsAdmitted, is_admitted, admitted_place, HasNext}
use Rattle.job_machine.proofs.Admitting.{has_next, granted_ok, admitted_sound, admitted_state}
use Rattle.job_machine.proofs.TurnLemmas.{parts, task_read, turn_shows, turn_sound}
use Rattle.job_machine.proofs.machine.Machine.admit.Given.{Over}
use Rattle.job_machine.proofs.machine.Machine.admit.Goals as goal
use Rattle.job_machine.proofs.machine.Machine.admit.Goals.{After-next_admission-next, In-Admitted, After-job_at}

pub next_admission-next-requires-clause-slots : goal.next_admission-next-requires-clause-slots
next_admission-next-requires-clause-slots g c =
    let jobs_are = ap length (c.as_slice.ensures.value ∙ ap (λ v. v.items) c.deref.ensures) in
    let long = length-map (arc_value c.self.inside.jobs).items (ruled c.self.inside.rule) in
    omega (arith, ap length c.as_slice-2.ensures.value, jobs_are, c.self.invariant.slots_are, long)

pub next_admission-next-requires-clause-passes : goal.next_admission-next-requires-clause-passes
next_admission-next-requires-clause-passes g c =
    let jobs_are = ap length (c.as_slice.ensures.value ∙ ap (λ v. v.items) c.deref.ensures) in
    let long = length-map (arc_value c.self.inside.jobs).items (ruled c.self.inside.rule) in
    omega (arith, ap length c.as_slice-3.ensures.value, jobs_are, c.self.invariant.passes_are, long)

-- the answer is the machine's admission
answer : (g : Over) (c : goal.After-next_admission-next g) → c.next_admission-next.result ≡ admission_in c.args.self.now
answer g c =
    let jobs_are = c.as_slice.ensures.value ∙ ap (λ v. v.items) c.deref.ensures in
    answer_is c.self.inside c.self.invariant c.self.view_is _ (rw (
      jobs_are,
      c.as_slice-2.ensures.value,
      c.as_slice-3.ensures.value,
    ) at (c.next_admission-next.ensures c.self.inside.rule))

pub returns-in_default : goal.returns-in_default
returns-in_default g c =
    let is = answer g (goal.at.returns-in_default g c).After-next_admission-next in
    record { answer = is; state = nobody_state _ _ is c.in_default.not-Admitted }

-- the job is the one that is admitted
next : (g : Over) (c : goal.In-Admitted g) → IsAdmitted (parts c.self.inside) c.in-Admitted.job
next g c =
    is_admitted c.admission_laws.ensures.room c.self.view_is c.in-Admitted.job
    (sym (answer g (goal.at.In-Admitted g c).After-next_admission-next) ∙ c.in-Admitted.is)

pub overflow_sub-place : goal.overflow_sub-place
overflow_sub-place g c = (admitted_place (next g (goal.at.overflow_sub-place g c).In-Admitted)).first

pub pass_before-requires-clause-within : goal.pass_before-requires-clause-within
pass_before-requires-clause-within g c =
    let here = admitted_place (next g (goal.at.pass_before-requires-clause-within g c).In-Admitted) in
    omega (arith, here.within, ap length c.as_slice-4.ensures.value, c.self.invariant.slots_are)

pub index_mut-slot-requires : goal.index_mut-slot-requires
index_mut-slot-requires g c =
    let here = admitted_place (next g (goal.at.index_mut-slot-requires g c).In-Admitted) in
    omega (arith, here.first, here.within, c.self.invariant.slots_are, c.self.inside.slots.ok)

pub job_at-requires : goal.job_at-requires
job_at-requires g c =
    let here = admitted_place (next g (goal.at.job_at-requires g c).In-Admitted) in
    omega (arith, here.first, here.within, length-map (arc_value c.self.inside.jobs).items (ruled c.self.inside.rule))

-- it has the turn
turn : (g : Over) (c : goal.After-job_at g) → HasNext (parts c.self.inside) c.args.self.now c.in-Admitted.job
    (c.in-Admitted.job - 1) (ruled c.self.inside.rule c.job_at.result.now) c.index_mut-slot.result.now
turn g c =
    has_next _ _ _ c.self.invariant c.self.view_is (next g (goal.at.After-job_at g c).In-Admitted) refl
    (task_read c.self.inside.rule _ (c.in-Admitted.job - 1) _ c.job_at.ensures) c.index_mut-slot.ensures.value

pub admit-granted-requires-clause-shows : goal.admit-granted-requires-clause-shows
admit-granted-requires-clause-shows g c =
    turn_shows (turn g (goal.at.admit-granted-requires-clause-shows g c).After-job_at).turn c.self.invariant

pub admit-granted-requires-clause-waits : goal.admit-granted-requires-clause-waits
admit-granted-requires-clause-waits g c =
    (turn g (goal.at.admit-granted-requires-clause-waits g c).After-job_at).waits

-- the passes that are left
late : (g : Over) (c : goal.After-job_at g) → (with_items c.self.inside.passes c.pass_before.new.passes).items ≡
    passes_before (c.in-Admitted.job - 1) (standings_of c.self.inside.slots.items) c.self.inside.passes.items
late g c = grind (arith, with_items_is)

pub invariant_of-self : goal.invariant_of-self
invariant_of-self g c =
    let at = goal.at.invariant_of-self g c in
    let has = turn g at.After-job_at in
    admitted_sound has c.admission_laws.ensures.passed _ (late g at.After-job_at) c.admission_laws.ensures.few
    c.self.invariant (turn_sound has.turn c.others_are_shown.ensures c.self.invariant c.admit-granted.ensures.others
    c.admit-granted.ensures.shows)

pub returns-clause-answer : goal.returns-clause-answer
returns-clause-answer g c =
    sym c.in-Admitted.is ∙ answer g (goal.at.returns-clause-answer g c).After-next_admission-next

pub returns-clause-state : goal.returns-clause-state
returns-clause-state g c =
    let at = goal.at.returns-clause-state g c in
    let has = turn g at.After-job_at in
    admitted_state has c.admission_laws.ensures.passed _ (late g at.After-job_at)
    c.admit-granted.new.blocks c.admit-granted.new.self c.admit-granted.ensures.others.memory.room
    (granted_ok c.admit-granted.result c.admit-granted.ensures.not_now has.room c.admit-granted.ensures.admitted)
