-- Choices between two values that may be missing.
use Rattle.std.specs.Prelude.{Option, Some, None}

-- the first if there is one, else the second
abbrev pub or_else : {T : Type 0} → Option T → Option T → Option T
or_else None second = second
or_else (Some first) second = Some first
