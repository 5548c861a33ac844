-- The function that each CALL goes to.
use Rattle.std.specs.Prelude.{◌≡◌, ◌≢◌, ◌<◌, ℕ, List, map, position, Option, Some, None, slice_get}
use Rattle.std.specs.Str.{bytes_eq}
use Rattle.vcode_base.specs.declared.instr.Instr.TheVariants.{Call}
use Rattle.vcode_reader.specs.declared.line.CodeItem.{CodeItem}
use Rattle.vcode_reader.specs.declared.line.CodeItem.TheVariants as code_item
use Rattle.vcode_reader.specs.Targets.{target_in}
use Rattle.vcode_reader.specs.Trees.{Item, Function, instruction_line, lines_of}

-- the name that a CALL calls
abbrev pub called_by : CodeItem Item → Option (List ℕ)
called_by (code_item.Do (Call name)) = Some name
called_by _ = None

-- the place of the first function that a CALL names, if there is one
abbrev pub callee_of : List Function → CodeItem Item → Option ℕ
callee_of fs (code_item.Do (Call name)) = position (λ f. bytes_eq f.name name) fs
callee_of fs _ = None

unfoldable pub callees_of : List Function → List (List (Option ℕ))
callees_of fs = map (λ f. map (λ x. callee_of fs x.item) (lines_of f)) fs

-- the callee at a place, in the entry of a function
abbrev pub callee_in : Option (List (Option ℕ)) → ℕ → Option ℕ
callee_in None place = None
callee_in (Some callees) place = target_in (slice_get callees place)

-- the callee of the line at a place of a function
abbrev pub callee_at : List Function → ℕ → ℕ → Option ℕ
callee_at fs function place = callee_in (slice_get (callees_of fs) function) place

-- this place has the first of the functions of this name
abbrev pub IsFirstNamed : List Function → List ℕ → ℕ → Type 0
IsFirstNamed fs name place =
    ((g : Function) × (slice_get fs place ≡ Some g) × (g.name ≡ name))
    × ((k : ℕ) (h : Function) → k < place → slice_get fs k ≡ Some h → h.name ≢ name)

-- In any program, the callee of a CALL that names a function is the first function of that name.
abbrev pub EachCallIsFound : Type 0
EachCallIsFound =
    (fs : List Function) (function place number called : ℕ) (f g : Function) →
    slice_get fs function ≡ Some f → slice_get (lines_of f) place ≡ Some (instruction_line (Call g.name) number) →
    slice_get fs called ≡ Some g →
    (first : ℕ) × (callee_at fs function place ≡ Some first) × IsFirstNamed fs g.name first
