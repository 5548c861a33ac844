-- Events that are played one after another.
use Rattle.std.proofs.Common.{arith, ◌≡◌, ℕ, zero, suc, ◌<◌, true, false, List, [], ◌∷◌, length, take, get_or}
use Rattle.std.proofs.Common.{slice_get, Some, Result, is_err, OnOk, OnErr, sym, ap, subst}
use Rattle.std.proofs.lemmas.Bool.{false≢true}
use Rattle.std.proofs.lemmas.Option.{none-some, same_Some, slice_get-get_or}
use Rattle.job_steps.specs.declared.event.Event.{Event}
use Rattle.job_machine.specs.Machines.{MachineState, machine_after, after_all, Leads}
use Rattle.job_machine.specs.Replays.{IsRefusable, IsRefusedAt}
use Rattle.job_machine.proofs.RunningOut.{leads_one}

-- one event more
one_more : (m : MachineState) (events : List Event) (place : ℕ) (event : Event) → slice_get events place ≡ Some event →
    after_all (take (suc place) events) m ≡ machine_after event (after_all (take place events) m)
one_more m [] place event is = absurd (none-some event is)
one_more m (first ∷ events) zero event is = ap (λ k. machine_after k m) (same_Some first event is)
one_more m (first ∷ events) (suc place) event is = one_more (machine_after first m) events place event is

pub played_next : (m self new : MachineState) (events : List Event) (place next : ℕ) (event : Event) →
    next ≡ suc place → place < length events → self ≡ after_all (take place events) m →
    new ≡ machine_after (get_or events place event) self → new ≡ after_all (take next events) m
played_next m self new events place next event next_is within self_is new_is = grind (arith, one_more, slice_get-get_or)

-- if the event at a place is refused memory
pub refused_at : (m self new : MachineState) (events : List Event) (place : ℕ) (event : Event) → place < length events →
    self ≡ after_all (take place events) m → IsRefusable (get_or events place event) self → new ≡ self →
    IsRefusedAt events m place × (new ≡ after_all (take place events) m)
refused_at m self new events place event within self_is refusable same = grind (arith, slice_get-get_or)

pub at_err : {T E P : Type 0} (r : Result T E) → true ≡ is_err r → OnErr r P → P
at_err r err p = grind (arith, false≢true)

pub at_ok : {T E P : Type 0} (r : Result T E) → false ≡ is_err r → OnOk r P → P
at_ok r ok p = grind (arith, false≢true)

pub leads_by : (event : Event) (m new : MachineState) → new ≡ machine_after event m → Leads m new
leads_by event m new new_is = subst (Leads m) (sym new_is) (leads_one event m)
