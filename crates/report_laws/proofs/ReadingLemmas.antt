-- Code n lines further on is read as before, n lines further on.
use Rattle.std.proofs.Common.{◌≡◌, ◌+◌, ℕ, ℤ, Bool, false, List, [], ◌∷◌, ◌++◌, refl, sym, ap, ◌∙◌, arith}
use Rattle.std.proofs.Common.{Option, Some, None, Result, Ok, Err}
use Rattle.std.specs.Prelude.{is_some, map, option_map, ◌||◌, if◌then◌else◌}
use Rattle.std.specs.Str.{bytes_eq}
use Rattle.std.proofs.lemmas.List.{length-map, map-append}
use Rattle.vcode_reader.specs.declared.class.Class.{Class}
use Rattle.vcode_reader.specs.declared.fault.CodeFault.{CodeFault}
use Rattle.vcode_reader.specs.declared.head.Head.{Head}
use Rattle.vcode_reader.specs.declared.head.Head.TheVariants as head
use Rattle.vcode_reader.specs.declared.keyword.Keyword.{Keyword}
use Rattle.vcode_reader.specs.declared.keyword.WordSlot.{WordSlot}
use Rattle.vcode_reader.specs.declared.line.CodeItem.{CodeItem}
use Rattle.vcode_reader.specs.declared.line.CodeItem.TheVariants as code_item
use Rattle.vcode_reader.specs.declared.place.OpenIf.{OpenIf}
use Rattle.vcode_reader.specs.declared.place.Place.{Place}
use Rattle.vcode_reader.specs.declared.place.Place.TheVariants.{Outside, Name, Inside, InsideOrInt, Words, Elements}
use Rattle.vcode_reader.specs.Classes.{class_of}
use Rattle.vcode_reader.specs.Decode.{ForElse, ForIf, Tail, Waits, before, before_else, before_if, tail_of, tree_of}
use Rattle.vcode_reader.specs.Drafts.{DraftState, innermost_line, is_open, open_if}
use Rattle.vcode_reader.specs.Drafts.{takes_else}
use Rattle.vcode_reader.specs.Drafts.{else_in, endif_in, with_if, with_item}
use Rattle.vcode_reader.specs.Keywords.{ItemParts}
use Rattle.vcode_reader.specs.Parsing.{Parse, after_name, after_part, after_return, after_slot, at_place}
use Rattle.vcode_reader.specs.Parsing.{has_name, in_list, in_slot, inside, item_place, one_element, outside}
use Rattle.vcode_reader.specs.Parsing.{start, take}
use Rattle.vcode_reader.specs.Reading.{at_end, outcome, program_at, reading, result_at_end}
use Rattle.vcode_reader.specs.Refusals.{Fault}
use Rattle.vcode_reader.specs.Scan.{Scan, beginning, by_comment, end_word, ends_word, in_comment, in_text, lone_word}
use Rattle.vcode_reader.specs.Scan.{scan_all, scan_byte}
use Rattle.vcode_reader.specs.Trees.{Body, CodeLine, Function, Item, line_of}
use Rattle.report_laws.specs.Laws.{CodeMoves}
use Rattle.report_laws.specs.MovedCode.{code_further_on, fault_further_on, moved_body, moved_function}

module _ (n : ℕ) where
  -- ---- trees

  abbrev moved_code_line : CodeLine → CodeLine
  moved_code_line x = record { item = x.item; number = x.number + n }

  abbrev moved_wait : Waits → Waits
  moved_wait (ForElse end rest) = ForElse (end + n) (moved_body n rest)
  moved_wait (ForIf second end rest) = ForIf (moved_body n second) (end + n) (moved_body n rest)

  abbrev moved_tail : Tail → Tail
  moved_tail t = record { body = moved_body n t.body; waits = map moved_wait t.waits }

  if_moved : (l : ℕ) (b : Body) (ws : List Waits)
      → before_if (l + n) (moved_body n b) (map moved_wait ws) ≡ moved_tail (before_if l b ws)
  if_moved l b ws = grind arith

  else_moved : (b : Body) (ws : List Waits)
      → before_else (moved_body n b) (map moved_wait ws) ≡ moved_tail (before_else b ws)
  else_moved b ws = grind arith

  before_moved : (item : CodeItem Item) (l : ℕ) (t : Tail)
      → before item (l + n) (moved_tail t) ≡ moved_tail (before item l t)
  before_moved item l t = grind (arith, if_moved, else_moved)

  tail_moved : (xs : List CodeLine) → tail_of (map moved_code_line xs) ≡ moved_tail (tail_of xs)
  unfolding tail_of
  tail_moved [] = refl
  tail_moved (x ∷ xs) = ap (before x.item (x.number + n)) (tail_moved xs) ∙ before_moved x.item x.number (tail_of xs)

  tree_moved : (xs : List CodeLine) → tree_of (map moved_code_line xs) ≡ moved_body n (tree_of xs)
  unfolding tree_of
  tree_moved xs = ap (λ (t : Tail). t.body) (tail_moved xs)

  -- ---- drafts

  abbrev moved_if : OpenIf → OpenIf
  moved_if i = record { line = i.line + n; has_else = i.has_else }

  abbrev moved_draft : DraftState → DraftState
  moved_draft d = record { lines = map moved_code_line d.lines; ifs = map moved_if d.ifs }

  abbrev draft_of : List CodeLine → List OpenIf → DraftState
  draft_of lines ifs = record { lines = lines; ifs = ifs }

  longer : (lines : List CodeLine) (x : CodeLine)
      → map moved_code_line lines ++ moved_code_line x ∷ [] ≡ map moved_code_line (lines ++ x ∷ [])
  longer lines x = sym (map-append moved_code_line lines (x ∷ []))

  with_item_moved : (i : Item) (l : ℕ) (d : DraftState)
      → with_item i (l + n) (moved_draft d) ≡ moved_draft (with_item i l d)
  with_item_moved i l d = grind (arith, map-append)

  with_if_moved : (l : ℕ) (d : DraftState) → with_if (l + n) (moved_draft d) ≡ moved_draft (with_if l d)
  with_if_moved l d = ap (λ (ls : List CodeLine). draft_of ls (map moved_if (open_if l false ∷ d.ifs)))
      (longer d.lines (line_of code_item.If l))

  else_in_moved : (ifs : List OpenIf) (lines : List CodeLine)
      → else_in (map moved_if ifs) (map moved_code_line lines) ≡ moved_draft (else_in ifs lines)
  else_in_moved ifs lines = grind (arith, map-append)

  endif_in_moved : (e : ℕ) (ifs : List OpenIf) (lines : List CodeLine)
      → endif_in (e + n) (map moved_if ifs) (map moved_code_line lines) ≡ moved_draft (endif_in e ifs lines)
  endif_in_moved e ifs lines = grind (arith, map-append)

  open_moved : (ifs : List OpenIf) → is_open (map moved_if ifs) ≡ is_open ifs
  open_moved ifs = grind arith

  takes_moved : (ifs : List OpenIf) → takes_else (map moved_if ifs) ≡ takes_else ifs
  takes_moved ifs = grind arith

  innermost_moved : (ifs : List OpenIf) (l : ℕ)
      → innermost_line (map moved_if ifs) (l + n) ≡ innermost_line ifs l + n
  innermost_moved ifs l = grind arith

  -- ---- what is open

  abbrev moved_place : Place → Place
  moved_place Outside = Outside
  moved_place Name = Name
  moved_place Inside = Inside
  moved_place InsideOrInt = InsideOrInt
  moved_place (Words k s begun) = Words k s (begun + n)
  moved_place (Elements k begun opened) = Elements k (begun + n) (opened + n)

  -- outside a function no line is kept
  abbrev line_at : Place → ℕ → ℕ
  line_at Outside l = l
  line_at Name l = l + n
  line_at Inside l = l + n
  line_at InsideOrInt l = l + n
  line_at (Words k s begun) l = l + n
  line_at (Elements k begun opened) l = l + n

  abbrev moved_parse : Parse → Parse
  moved_parse p = record {
    functions = map (moved_function n) p.functions;
    place = moved_place p.place;
    name = p.name;
    line = line_at p.place p.line;
    draft = moved_draft p.draft;
    slots = p.slots;
    parts = p.parts;
    fault = option_map (fault_further_on n) p.fault;
  }

  abbrev Within : Parse → Type 0
  Within p = line_at p.place p.line ≡ p.line + n

  both : (b : Bool) (x y u v : Parse) → u ≡ moved_parse x → v ≡ moved_parse y
      → if b then u else v ≡ moved_parse (if b then x else y)
  both b x y u v h1 h2 = grind arith

  place_of_item : (b : Bool) → item_place b ≡ moved_place (item_place b)
  place_of_item b = grind arith

  line_of_item : (b : Bool) (l : ℕ) → l + n ≡ line_at (item_place b) l
  line_of_item b l = grind arith

  slot_moved : (k : Keyword) (begun : ℕ) (slots : List WordSlot) (p : Parse) → Within p
      → after_slot k (begun + n) slots (moved_parse p) ≡ moved_parse (after_slot k begun slots p)
  slot_moved k begun slots p h = grind (arith, with_item_moved, line_of_item, place_of_item)

  part_moved : (r : Result ItemParts CodeFault) (k : Keyword) (begun l : ℕ) (p : Parse) → Within p
      → after_part r k (begun + n) (l + n) (moved_parse p) ≡ moved_parse (after_part r k begun l p)
  part_moved (Ok parts) k begun l p h = slot_moved k begun p.slots (record p { parts = parts }) h
  part_moved (Err r) k begun l p h = refl

  in_slot_moved : (s : WordSlot) (k : Keyword) (begun : ℕ) (t : List ℕ) (l : ℕ) (p : Parse) → Within p
      → in_slot s k (begun + n) t (l + n) (moved_parse p) ≡ moved_parse (in_slot s k begun t l p)
  in_slot_moved s k begun t l p h1 = grind (arith, part_moved)

  element_moved : (o : Option ℤ) (t : List ℕ) (l : ℕ) (p : Parse)
      → one_element o t (l + n) (moved_parse p) ≡ moved_parse (one_element o t l p)
  element_moved o t l p = grind (arith, both)

  in_list_moved : (k : Keyword) (begun : ℕ) (t : List ℕ) (l : ℕ) (p : Parse) → Within p
      → in_list k (begun + n) t (l + n) (moved_parse p) ≡ moved_parse (in_list k begun t l p)
  in_list_moved k begun t l p h1 = grind (arith, both, slot_moved, element_moved)

  outside_moved : (h : Head) (l : ℕ) (p : Parse)
      → outside h (l + n) (moved_parse p) ≡ moved_parse (outside h l p)
  outside_moved h l p = grind (arith, length-map)

  has_name_moved : (t : List ℕ) (fs : List Function) → has_name t (map (moved_function n) fs) ≡ has_name t fs
  has_name_moved t [] = refl
  has_name_moved t (f ∷ fs) = ap (λ (b : Bool). bytes_eq t f.name || b) (has_name_moved t fs)

  name_moved : (t : List ℕ) (l : ℕ) (p : Parse) → Within p
      → after_name t (l + n) (moved_parse p) ≡ moved_parse (after_name t l p)
  name_moved t l p h1 = grind (arith, has_name_moved)

  return_moved : (l : ℕ) (p : Parse) → Within p
      → after_return (l + n) (moved_parse p) ≡ moved_parse (after_return l p)
  return_moved l p h1 = grind (arith, tree_moved, map-append)

  inside_moved : (h : Head) (slots : List WordSlot) (l : ℕ) (p : Parse) → Within p
      → inside h slots (l + n) (moved_parse p) ≡ moved_parse (inside h slots l p)
  inside_moved h slots l p h1 =
      grind (
        arith,
        open_moved,
        takes_moved,
        length-map,
        return_moved,
        with_if_moved,
        else_in_moved,
        endif_in_moved,
        slot_moved,
      )

  -- ---- a word

  -- within a function these are equal
  abbrev AreWithin : Place → ℕ → ℕ → Type 0
  AreWithin Outside a b = Unit {0}
  AreWithin _ a b = a ≡ b

  within : (place : Place) (l : ℕ) → AreWithin place (line_at place l) (l + n)
  within place l = grind arith

  at_moved : (place : Place) (t : List ℕ) (l : ℕ) (p : Parse) → AreWithin place (line_at p.place p.line) (p.line + n)
      → at_place (moved_place place) t (l + n) (moved_parse p) ≡ moved_parse (at_place place t l p)
  at_moved place t l p h1 = grind (arith, outside_moved, name_moved, inside_moved, both, in_slot_moved, in_list_moved)

  some_moved : (o : Option Fault) → is_some (option_map (fault_further_on n) o) ≡ is_some o
  some_moved o = grind arith

  take_moved : (t : List ℕ) (l : ℕ) (p : Parse) → take t (l + n) (moved_parse p) ≡ moved_parse (take t l p)
  unfolding take
  take_moved t l p = let m = at_moved p.place t l p (within p.place p.line) in grind (arith, some_moved)

  -- ---- bytes

  abbrev moved_comment : Option ℕ → Option ℕ
  moved_comment None = None
  moved_comment (Some begun) = Some (begun + n)

  abbrev moved_scan : Scan Parse → Scan Parse
  moved_scan s = record {
    found = moved_parse s.found;
    line = s.line + n;
    word = s.word;
    comment = moved_comment s.comment;
  }

  abbrev found_with : Scan Parse → List ℕ → Parse → Scan Parse
  found_with s word p = record s { found = p; word = word }

  ends_moved : (word : List ℕ) (s : Scan Parse) → s.word ≡ word
      → ends_word take word (moved_scan s) ≡ moved_scan (ends_word take word s)
  ends_moved word s h1 = grind (arith, take_moved)

  end_moved : (s : Scan Parse) → end_word take (moved_scan s) ≡ moved_scan (end_word take s)
  unfolding end_word
  end_moved s = ends_moved s.word s refl

  lone_moved : (b : ℕ) (s : Scan Parse) → lone_word take b (moved_scan s) ≡ moved_scan (lone_word take b s)
  unfolding lone_word
  lone_moved b s = ap (found_with (moved_scan s) s.word) (take_moved (b ∷ []) s.line s.found)

  abbrev at_line : Scan Parse → ℕ → Scan Parse
  at_line s line = record s { line = line }

  abbrev next_line : Scan Parse → Scan Parse
  next_line s = record s { line = s.line + 1 }

  later : (l : ℕ) → l + n + 1 ≡ l + 1 + n
  later l = omega arith

  next_line_moved : (s : Scan Parse) → next_line (moved_scan s) ≡ moved_scan (next_line s)
  next_line_moved s = ap (at_line (moved_scan s)) (later s.line)

  alone : (b : ℕ) (s : Scan Parse)
      → lone_word take b (end_word take (moved_scan s)) ≡ moved_scan (lone_word take b (end_word take s))
  alone b s = ap (lone_word take b) (end_moved s) ∙ lone_moved b (end_word take s)

  in_text_moved : (c : Class) (b : ℕ) (s : Scan Parse)
      → in_text take c b (moved_scan s) ≡ moved_scan (in_text take c b s)
  in_text_moved c b s = grind (arith, end_moved, lone_moved, alone)

  in_comment_moved : (c : Class) (s : Scan Parse) → in_comment c (moved_scan s) ≡ moved_scan (in_comment c s)
  in_comment_moved c s = grind (arith, next_line_moved)

  by_comment_moved : (comment : Option ℕ) (c : Class) (b : ℕ) (s : Scan Parse)
      → by_comment take (moved_comment comment) c b (moved_scan s) ≡ moved_scan (by_comment take comment c b s)
  by_comment_moved comment c b s = grind (arith, in_text_moved, in_comment_moved)

  byte_moved : (s : Scan Parse) (b : ℕ) → scan_byte take (moved_scan s) b ≡ moved_scan (scan_byte take s b)
  unfolding scan_byte
  byte_moved s b = by_comment_moved s.comment (class_of b) b s

  scan_moved : (s : Scan Parse) (bytes : List ℕ)
      → scan_all take (moved_scan s) bytes ≡ moved_scan (scan_all take s bytes)
  unfolding scan_all
  scan_moved s [] = refl
  scan_moved s (b ∷ bs) = grind (arith, byte_moved, scan_moved (scan_byte take s b) bs)

  -- ---- the end of the text

  abbrev moved_functions : Result (List Function) Fault → Result (List Function) Fault
  moved_functions (Ok fs) = Ok (map (moved_function n) fs)
  moved_functions (Err fault) = Err (fault_further_on n fault)

  at_end_moved : (place : Place) (p : Parse) → AreWithin place (line_at p.place p.line) (p.line + n)
      → at_end (moved_place place) (moved_parse p) ≡ moved_functions (at_end place p)
  at_end_moved place p h1 = grind (arith, innermost_moved)

  result_moved : (fault : Option Fault) (comment : Option ℕ) (p : Parse)
      → result_at_end (option_map (fault_further_on n) fault) (moved_comment comment) (moved_parse p)
      ≡ moved_functions (result_at_end fault comment p)
  result_moved fault comment p = grind (arith, at_end_moved, within)

  outcome_moved : (s : Scan Parse) → outcome (moved_scan s) ≡ moved_functions (outcome s)
  unfolding outcome
  outcome_moved s = grind (arith, end_moved, result_moved)

  program_moved : (first : ℕ) (r : Result (List Function) Fault)
      → program_at (first + n) (moved_functions r) ≡ code_further_on n (program_at first r)
  program_moved first r = grind arith

pub code_moves : CodeMoves
unfolding reading
code_moves n first bytes =
    let begun : Scan Parse = beginning start first in
    ap (λ (s : Scan Parse). program_at (first + n) (outcome s)) (scan_moved n begun bytes)
    ∙ ap (program_at (first + n)) (outcome_moved n (scan_all take begun bytes))
    ∙ program_moved n first (outcome (scan_all take begun bytes))
