-- The numbers of references.
use Rattle.std.specs.Prelude.{ℕ, ◌+◌, ◌<◌}
use Rattle.dap_views.specs.declared.reference.Reference.{Reference}
use Rattle.dap_views.specs.declared.reference.Reference.TheVariants.{Entries, Stack, Run, Values}

abbrev pub number_of : Reference → ℕ
number_of Stack = 1
number_of Run = 2
number_of (Entries place) = 65536 + place
number_of (Values depth) = 131072 + depth

-- its place or its depth has 16 bits
abbrev pub IsShort : Reference → Type 0
IsShort Stack = Unit {0}
IsShort Run = Unit {0}
IsShort (Entries place) = place < 65536
IsShort (Values depth) = depth < 65536
