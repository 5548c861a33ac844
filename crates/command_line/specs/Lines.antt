-- What a command line can ask for.
use Rattle.std.specs.Prelude.{◌≡◌, ℕ, ◌≤◌, List, Some, IfSome}
use Rattle.vcode_base.specs.declared.limits.TheConstants.{MOST_WORDS, MOST_WORKERS}
use Rattle.command_line.specs.declared.line.Line.{Line}
use Rattle.command_line.specs.declared.line.Line.TheVariants.{Run, Help}
use Rattle.batch_front.specs.declared.options.Options.{Options}
use Rattle.batch_front.specs.declared.schedule.Item.{Item}
use Rattle.batch_front.specs.Schedules.{schedule_of}

-- the items that some text gives
abbrev pub IsSchedule : List Item → Type 0
IsSchedule items = (text : List ℕ) × (schedule_of text ≡ Some items)

-- a region and workers within their limits, and a schedule, if there is one
pub record OptionsFit (options : Options) : Type 0 where
  pub region : (1 ≤ options.region) × (options.region ≤ MOST_WORDS)
  pub workers : (1 ≤ options.workers) × (options.workers ≤ MOST_WORKERS)
  pub schedule : IfSome options.schedule (λ items. IsSchedule items.items)

-- the options of a run fit
abbrev pub LineFits : Line → Type 0
LineFits (Run options file) = OptionsFit options
LineFits (Help text) = Unit {0}
