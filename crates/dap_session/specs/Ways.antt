-- Which state a way leads to.
use Rattle.std.specs.Prelude.{◌≡◌, ◌-◌, Option, Some, None}
use Rattle.job_history.specs.Goals.{EndsBack, EndsNext}
use Rattle.job_history.specs.Places.{IsLater, Place, moved_to}
use Rattle.job_history.specs.declared.goal.Found.{Found}
use Rattle.dap_session.specs.declared.way.Way.{Way}
use Rattle.dap_session.specs.declared.way.Way.TheVariants.{Forward, Back, Next, Before}

-- A run that was at one state and is at another has gone this way, and has found this.
abbrev pub HasGone : Way → (old new : Place) → Found → Type 0
HasGone (Forward count) old new found = IsLater count old new
HasGone (Back count) old new found = new ≡ moved_to old (old.at - count)
HasGone (Next goal most) old new found = EndsNext found goal.now.stops.now goal.now.calls most old new
HasGone (Before goal) old new found = EndsBack found goal.now.stops.now goal.now.calls old new

-- The same of a run that is kept, if there is one before and after.
abbrev pub IsGone : Way → (old new : Option Place) → Found → Type 0
IsGone way (Some old) (Some new) found = HasGone way old new found
IsGone way (Some old) None found = ⊥
IsGone way None new found = ⊥
