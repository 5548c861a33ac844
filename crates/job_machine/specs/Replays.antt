-- What a replay of events makes of a machine.
use Rattle.std.specs.Prelude.{◌≡◌, ℕ, List, take, slice_get, Some}
use Rattle.job_steps.specs.declared.event.Event.{Event}
use Rattle.job_steps.specs.declared.event.Event.TheVariants.{Collect}
use Rattle.job_machine.specs.declared.replay.ReplayFault.{ReplayFault}
use Rattle.job_machine.specs.declared.replay.ReplayFault.TheVariants as fault
use Rattle.job_machine.specs.Machines.{MachineState, after_all, recalled, HasReturnedIn}

-- the event collects a job that has returned: no other takes memory
abbrev pub IsRefusable : Event → MachineState → Type 0
IsRefusable (Collect job) m = HasReturnedIn m job
IsRefusable event m = ⊥

-- the event at this place may be refused memory, once those before it are done
pub record IsRefusedAt (events : List Event) (m : MachineState) (place : ℕ) : Type 0 where
  pub event : Event
  pub event_is : slice_get events place ≡ Some event
  pub refusable : IsRefusable event (after_all (take place events) m)

-- What is left by a replay that was refused memory: what was given, or what the events before a place make of it, with
-- every step given up.
abbrev pub StopsWith : List Event → (old new : MachineState) → ReplayFault → Type 0
StopsWith events old new fault.Desks = new ≡ old
StopsWith events old new (fault.Collect place) =
    IsRefusedAt events (recalled old) place × (new ≡ recalled (after_all (take place events) (recalled old)))
