-- The lines of a function whose lists and names lie in two pools: where each lies, the lines that they are, and the
-- targets that are put into them.
use Rattle.std.specs.Prelude.{◌≡◌, ◌<◌, ◌≤◌, ℕ, zero, suc, ℤ, ◌+◌, ◌-◌, ◌^◌, min, List, [], ◌∷◌, ◌++◌, length, map}
use Rattle.std.specs.Prelude.{take, drop, Option, None}
use Rattle.vcode_base.specs.declared.instr.Instr.TheVariants as instr
pub use Rattle.vcode_reader.specs.declared.code_lines.PooledItem.{PooledItem}
use Rattle.vcode_reader.specs.declared.code_lines.PooledItem.TheVariants as pooled
pub use Rattle.vcode_reader.specs.declared.code_lines.PooledLine.{PooledLine}
use Rattle.vcode_reader.specs.declared.code_lines.Span.{Span}
use Rattle.vcode_reader.specs.declared.line.CodeItem.{CodeItem}
use Rattle.vcode_reader.specs.declared.line.CodeItem.TheVariants as code_item
use Rattle.vcode_reader.specs.Targets.{first_of, others_of, target_in, targets_of}
use Rattle.vcode_reader.specs.Trees.{Item, CodeLine, line_of}

-- the list, and the name, of an instruction that has one
abbrev pub list_in : Item → List ℤ
list_in (instr.Const kind list) = list
list_in _ = []

abbrev pub name_in : Item → List ℕ
name_in (instr.Call name) = name
name_in _ = []

abbrev pub list_of : CodeItem Item → List ℤ
list_of (code_item.Do i) = list_in i
list_of _ = []

abbrev pub name_of : CodeItem Item → List ℕ
name_of (code_item.Do i) = name_in i
name_of _ = []

-- all lists, and all names, one after another
unfoldable pub all_lists : List CodeLine → List ℤ
all_lists [] = []
all_lists (x ∷ xs) = list_of x.item ++ all_lists xs

unfoldable pub all_names : List CodeLine → List ℕ
all_names [] = []
all_names (x ∷ xs) = name_of x.item ++ all_names xs

-- the least number of a line, and of this number and the lines' numbers
unfoldable pub least_with : ℕ → List CodeLine → ℕ
least_with n [] = n
least_with n (x ∷ xs) = least_with (min n x.number) xs

unfoldable pub least_number : List CodeLine → ℕ
least_number [] = 0
least_number (x ∷ xs) = least_with x.number xs

-- the number of the first line once a line of this number is added, where `len` lines are there
abbrev pub first_with : ℕ → ℕ → ℕ → ℕ
first_with first zero number = number
first_with first (suc len) number = first

-- ---- where they lie, if the list begins at one place and the name at another

abbrev pub span_of : {A : Type 0} → ℕ → List A → Span
span_of start list = record { start = start; len = length list }

abbrev pub pooled_instruction : ℕ → ℕ → Item → PooledItem
pooled_instruction l n (instr.Const kind list) = pooled.Const kind (span_of l list)
pooled_instruction l n (instr.Elementwise op) = pooled.Elementwise op
pooled_instruction l n (instr.Segmented op) = pooled.Segmented op
pooled_instruction l n instr.If = pooled.DoIf
pooled_instruction l n (instr.Move motion lower upper) = pooled.Move motion lower upper
pooled_instruction l n (instr.Call name) = pooled.Call (span_of n name)
pooled_instruction l n instr.Return = pooled.Return

-- an IF and an ELSE have no target yet
abbrev pub pooled_item : ℕ → ℕ → CodeItem Item → PooledItem
pooled_item l n (code_item.Do i) = pooled_instruction l n i
pooled_item l n code_item.If = pooled.If None
pooled_item l n code_item.Else = pooled.Else None
pooled_item l n code_item.Endif = pooled.Endif

-- with the distance from the first line's number
abbrev pub pooled_line : ℕ → ℕ → ℕ → CodeLine → PooledLine
pooled_line first l n x = record { item = pooled_item l n x.item; distance = x.number - first }

-- lines whose lists and names lie one after another from these places on
unfoldable pub pooled_lines : ℕ → ℕ → ℕ → List CodeLine → List PooledLine
pooled_lines first l n [] = []
pooled_lines first l n (x ∷ xs) =
    pooled_line first l n x ∷ pooled_lines first (l + length (list_of x.item)) (n + length (name_of x.item)) xs

-- ---- what they are

abbrev pub part_of : {A : Type 0} → List A → Span → List A
part_of pool span = take span.len (drop span.start pool)

abbrev pub shown_item : List ℤ → List ℕ → PooledItem → CodeItem Item
shown_item ls ns (pooled.Const kind span) = code_item.Do (instr.Const kind (part_of ls span))
shown_item ls ns (pooled.Elementwise op) = code_item.Do (instr.Elementwise op)
shown_item ls ns (pooled.Segmented op) = code_item.Do (instr.Segmented op)
shown_item ls ns pooled.DoIf = code_item.Do instr.If
shown_item ls ns (pooled.Move motion lower upper) = code_item.Do (instr.Move motion lower upper)
shown_item ls ns (pooled.Call span) = code_item.Do (instr.Call (part_of ns span))
shown_item ls ns pooled.Return = code_item.Do instr.Return
shown_item ls ns (pooled.If target) = code_item.If
shown_item ls ns (pooled.Else target) = code_item.Else
shown_item ls ns pooled.Endif = code_item.Endif

abbrev pub shown_line : ℕ → List ℤ → List ℕ → PooledLine → CodeLine
shown_line first ls ns x = line_of (shown_item ls ns x.item) (first + x.distance)

-- the lines of these pools, from this first number on
unfoldable pub shown_lines : ℕ → List ℤ → List ℕ → List PooledLine → List CodeLine
shown_lines first ls ns xs = map (shown_line first ls ns) xs

-- the span lies in the pool
abbrev pub LiesIn : {A : Type 0} → List A → Span → Type 0
LiesIn pool span = span.start + span.len ≤ length pool

abbrev pub ItemLiesIn : List ℤ → List ℕ → PooledItem → Type 0
ItemLiesIn ls ns (pooled.Const kind span) = LiesIn ls span
ItemLiesIn ls ns (pooled.Call span) = LiesIn ns span
ItemLiesIn ls ns _ = Unit {0}

-- ---- their targets

-- the target of an item that has one
abbrev pub target_of : PooledItem → Option ℕ
target_of (pooled.If target) = target
target_of (pooled.Else target) = target
target_of _ = None

-- an IF or an ELSE with this target
abbrev pub with_target : Option ℕ → PooledItem → PooledItem
with_target target (pooled.If old) = pooled.If target
with_target target (pooled.Else old) = pooled.Else target
with_target target i = i

abbrev pub line_with_target : Option ℕ → PooledLine → PooledLine
line_with_target target x = record { item = with_target target x.item; distance = x.distance }

-- the lines with the targets of a list, line by line
unfoldable pub with_targets : List (Option ℕ) → List PooledLine → List PooledLine
with_targets targets [] = []
with_targets targets (x ∷ xs) =
    line_with_target (target_in (first_of targets)) x ∷ with_targets (others_of targets) xs

-- the places that earlier lines go on at, if this item is at this place in front of others
abbrev pub waits_before : PooledItem → ℕ → List ℕ → List ℕ
waits_before (pooled.If target) place waits = others_of waits
waits_before (pooled.Else target) place waits = (place + 1) ∷ others_of waits
waits_before pooled.Endif place waits = (place + 1) ∷ waits
waits_before i place waits = waits

-- the lines of a function with their targets
unfoldable pub linked_lines : List CodeLine → List PooledLine
linked_lines xs = with_targets (targets_of xs) (pooled_lines (least_number xs) 0 0 xs)

-- the number of each line fits 64 bits
abbrev pub NumbersFit : List CodeLine → Type 0
NumbersFit [] = Unit {0}
NumbersFit (x ∷ xs) = (x.number < 2 ^ 64) × NumbersFit xs

-- the lists and the names are those of the lines, one after another, and the first number is the least; no line has a
-- target
pub record ArePooled (first : ℕ) (pooled : List PooledLine) (ls : List ℤ) (ns : List ℕ) : Type 0 where
  pub least : first ≡ least_number (shown_lines first ls ns pooled)
  pub room : NumbersFit (shown_lines first ls ns pooled)
  pub lines : pooled ≡ pooled_lines first 0 0 (shown_lines first ls ns pooled)
  pub lists : ls ≡ all_lists (shown_lines first ls ns pooled)
  pub names : ns ≡ all_names (shown_lines first ls ns pooled)

-- the same, and the lines have their targets
pub record AreLinked (first : ℕ) (pooled : List PooledLine) (ls : List ℤ) (ns : List ℕ) : Type 0 where
  pub least : first ≡ least_number (shown_lines first ls ns pooled)
  pub room : NumbersFit (shown_lines first ls ns pooled)
  pub lines : pooled ≡ linked_lines (shown_lines first ls ns pooled)
  pub lists : ls ≡ all_lists (shown_lines first ls ns pooled)
  pub names : ns ≡ all_names (shown_lines first ls ns pooled)
