-- Lines whose places, lists and names fit 32 bits, and whose numbers aren't far apart.
use Rattle.std.specs.Prelude.{◌<◌, ◌≤◌, ◌+◌, ◌^◌, ℕ, List, [], ◌∷◌, length}
use Rattle.vcode_reader.specs.Drafts.{DraftState, IsDraft}
use Rattle.vcode_reader.specs.Parsing.{Parse, take}
use Rattle.vcode_reader.specs.Pools.{all_lists, all_names}
use Rattle.vcode_reader.specs.Scan.{Scan, end_word, scan_all}
use Rattle.vcode_reader.specs.Trees.{CodeLine, Function, lines_of}

-- no line comes before this number, and none 2^32 lines after it
abbrev pub AreNear : ℕ → List CodeLine → Type 0
AreNear n [] = Unit {0}
AreNear n (x ∷ xs) = (n ≤ x.number) × (x.number < n + 2 ^ 32) × AreNear n xs

-- the lines are near the first
abbrev pub AreTogether : List CodeLine → Type 0
AreTogether [] = Unit {0}
AreTogether (x ∷ xs) = AreNear x.number xs

-- 32 bits suffice for the places of the lines, of what their lists hold and of the bytes of their names
pub record FitsPools (xs : List CodeLine) : Type 0 where
  pub lines : length xs < 2 ^ 32
  pub lists : length (all_lists xs) < 2 ^ 32
  pub names : length (all_names xs) < 2 ^ 32
  pub numbers : AreTogether xs

-- those of each function do
abbrev pub FunctionsFit : List Function → Type 0
FunctionsFit [] = Unit {0}
FunctionsFit (f ∷ fs) = FitsPools (lines_of f) × FunctionsFit fs

-- the lines of a draft do
abbrev pub FitsDraft : DraftState → Type 0
FitsDraft d = IsDraft d.ifs d.lines → FitsPools d.lines

-- what has been read of a program does
pub record FitsParse (p : Parse) : Type 0 where
  pub functions : FunctionsFit p.functions
  pub draft : FitsDraft p.draft

-- what is read does after this text
abbrev pub FitsText : Scan Parse → List ℕ → Type 0
FitsText s text = FitsParse (end_word take (scan_all take s text)).found
