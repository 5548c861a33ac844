-- What fits 32 bits: lines that are added to others, and what fits after a word or after more of a text.
use Rattle.std.proofs.lemmas.Grind.{common_steps}
use Rattle.std.proofs.Common.{rules, ◌≡◌, ℕ, Bool, true, false, List, [], ◌∷◌, ◌++◌, Option, refl, ◌≤◌, ◌⊎◌, arith}
use Rattle.std.proofs.Common.{length, subst, ℤ, ◌+◌, ◌^◌, ◌<◌, sym, Some, length-append}
use Rattle.std.proofs.lemmas.Bool.Decides.{nat_tests}
use Rattle.std.specs.Prelude.{if◌then◌else◌}
use Rattle.vcode_reader.specs.declared.class.Class.{Class}
use Rattle.vcode_reader.specs.declared.class.Class.TheVariants.{CloseBrace, Parenthesis, Refused}
use Rattle.vcode_reader.specs.declared.head.Head.{Head}
use Rattle.vcode_reader.specs.declared.head.Head.TheVariants as head
use Rattle.vcode_reader.specs.declared.keyword.Keyword.{Keyword}
use Rattle.vcode_reader.specs.declared.keyword.WordSlot.{WordSlot}
use Rattle.vcode_reader.specs.declared.place.OpenIf.{OpenIf}
use Rattle.vcode_reader.specs.declared.place.Place.{Place}
use Rattle.vcode_reader.specs.declared.place.Place.TheVariants.{Outside, Name, Inside, InsideOrInt, Words, Elements}
use Rattle.vcode_reader.specs.Classes.{class_of}
use Rattle.vcode_reader.specs.Drafts.{DraftState, else_in, endif_in, is_open, takes_else, with_if, IsDraft}
use Rattle.vcode_reader.specs.Drafts.{lines_after_endif}
use Rattle.vcode_reader.specs.Heads.{head_of, slots_of}
use Rattle.vcode_reader.specs.Parsing.{Parse, after_name, after_return, after_slot, at_place, in_list, in_slot, inside}
use Rattle.vcode_reader.specs.Parsing.{outside, take}
use Rattle.vcode_reader.specs.Room.{FitsDraft, FitsParse, FitsPools, FitsText, FunctionsFit, AreNear, AreTogether}
use Rattle.vcode_reader.specs.Scan.{Scan, by_comment, end_word, ends_word, in_text, lone_word, scan_all, scan_byte}
use Rattle.vcode_reader.specs.Trees.{CodeLine, Function, lines_of, body_lines, instruction_line, line_of}
use Rattle.vcode_reader.proofs.Drafting.{else_draft, endif_draft, if_draft, item_draft, whole_draft, draft_at}
use Rattle.vcode_reader.proofs.Drafting.{empty_draft}
use Rattle.vcode_reader.proofs.Pooling.{same_pooled, pushed_shown, length-lists_more, length-names_more, shown_length}
use Rattle.std.proofs.Math.Nat.{min-eq_left}
use Rattle.std.proofs.lemmas.Option.{same_Some}
use Rattle.vcode_base.specs.declared.instr.Instr.TheVariants.{Return}
use Rattle.vcode_reader.specs.declared.line.CodeItem.TheVariants as code_item
use Rattle.vcode_reader.specs.Decode.{AreBodyLines, tree_of}
use Rattle.vcode_reader.specs.Pools.{ArePooled, PooledLine, all_lists, all_names, first_with, least_number, least_with}
use Rattle.vcode_reader.specs.Pools.{list_of, name_of, shown_lines}
use Rattle.vcode_reader.specs.Targets.{first_of}

-- ---- the first of some lines

near_front : (n : ℕ) (xs ys : List CodeLine) → AreNear n (xs ++ ys) → AreNear n xs
near_front n [] ys h = tt
near_front n (x ∷ xs) ys h = (h.0, h.1, near_front n xs ys h.2)

lists_of_front : (xs ys : List CodeLine) → length (all_lists xs) ≤ length (all_lists (xs ++ ys))
unfolding all_lists
lists_of_front [] ys = omega arith
lists_of_front (x ∷ xs) ys = grind (arith, length-append, lists_of_front xs ys)

names_of_front : (xs ys : List CodeLine) → length (all_names xs) ≤ length (all_names (xs ++ ys))
unfolding all_names
names_of_front [] ys = omega arith
names_of_front (x ∷ xs) ys = grind (arith, length-append, names_of_front xs ys)

-- what suffices for lines suffices for the first of them
pub front_fits : (xs ys : List CodeLine) → FitsPools (xs ++ ys) → FitsPools xs
front_fits xs ys h = grind (arith, nat_tests, length-append, lists_of_front, names_of_front, near_front)

-- ---- one line more

near_last : (n : ℕ) (xs : List CodeLine) (x : CodeLine) → AreNear n (xs ++ x ∷ []) →
    (n ≤ x.number) × (x.number < n + 2 ^ 32)
near_last n [] x h = (h.0, h.1)
near_last n (y ∷ ys) x h = near_last n ys x h.2

least_of_near : (n : ℕ) (xs : List CodeLine) → AreNear n xs → least_with n xs ≡ n
unfolding least_with
least_of_near n [] h = refl
least_of_near n (x ∷ xs) h = grind (arith, nat_tests, min-eq_left, least_of_near n xs h.2)

-- the number of a line that is added is near that of the first
near_first : (xs : List CodeLine) (x : CodeLine) (first : ℕ) → first ≡ least_number xs → AreTogether (xs ++ x ∷ []) →
    (first_with first (length xs) x.number ≤ x.number) × (x.number < first_with first (length xs) x.number + 2 ^ 32)
unfolding least_number
near_first [] x first e h = (omega arith, omega arith)
near_first (y ∷ ys) x first e h =
    grind (arith, near_last y.number ys x h, least_of_near y.number ys (near_front y.number ys (x ∷ []) h))

-- what has to be known of a line that is added to pools
pub record AddsLine (first number lists names : ℕ) (more : List ℤ) (bytes : List ℕ) : Type 0 where
  pub after : first ≤ number
  pub near : number < first + 2 ^ 32
  pub list : lists + length more < 2 ^ 32
  pub name : names + length bytes < 2 ^ 32

pub adds_line : (first first2 : ℕ) (ps : List PooledLine) (ls : List ℤ) (ns : List ℕ) (len : ℕ) (x : CodeLine) →
    ArePooled first ps ls ns → len ≡ length ps → first2 ≡ first_with first len x.number →
    FitsPools (shown_lines first ls ns ps ++ x ∷ []) →
    AddsLine first2 x.number (length ls) (length ns) (list_of x.item) (name_of x.item)
adds_line first first2 ps ls ns len x held long begin fits =
    grind (arith, common_steps, shown_length, near_first, length-lists_more, length-names_more)

-- ---- drafts

pub else_fits : (ifs : List OpenIf) (lines : List CodeLine) (i : OpenIf) → Some i ≡ first_of ifs →
    takes_else ifs ≡ true → IsDraft ifs lines → FitsDraft (else_in ifs lines) →
    FitsPools (lines ++ line_of code_item.Else i.line ∷ [])
else_fits [] lines i e t h fits = cc
else_fits (j ∷ is) lines i e t h fits =
    subst (λ (k : OpenIf). FitsPools (lines ++ line_of code_item.Else k.line ∷ [])) (sym (same_Some i j e))
    (fits (else_draft (j ∷ is) lines j refl t h))

pub endif_fits : (e : ℕ) (ifs : List OpenIf) (lines : List CodeLine) (i : OpenIf) → Some i ≡ first_of ifs →
    IsDraft ifs lines → FitsDraft (endif_in e ifs lines) → FitsPools (lines_after_endif i e lines)
endif_fits e [] lines i f h fits = cc
endif_fits e (j ∷ is) lines i f h fits =
    subst (λ (k : OpenIf). FitsPools (lines_after_endif k e lines)) (sym (same_Some i j f))
    (fits (endif_draft e (j ∷ is) lines j refl h))

-- the ELSE that an ENDIF adds
pub added_else : (i : OpenIf) (e : ℕ) (lines : List CodeLine) → i.has_else ≡ false →
    FitsPools (lines_after_endif i e lines) → FitsPools (lines ++ line_of code_item.Else i.line ∷ [])
added_else i e lines none h = grind (arith, nat_tests, front_fits)

-- the lines of a draft without open IFs, and a RET after them
pub function_lines : (ret : ℕ) (lines xs : List CodeLine) → xs ≡ lines → AreBodyLines xs →
    FitsPools (body_lines (tree_of lines) ++ instruction_line Return ret ∷ []) →
    FitsPools (xs ++ instruction_line Return ret ∷ [])
function_lines ret lines xs e body h = grind (arith, nat_tests)

-- a draft with more lines
pub ruleset draft_steps = (draft_at, empty_draft, if_draft, else_draft, endif_draft, else_fits, endif_fits)

-- pools with one line more
pub ruleset push_steps = (same_pooled, adds_line, pushed_shown)

-- ---- what fits after a word, or after more of a text, fits before it

functions_front : (fs gs : List Function) → FunctionsFit (fs ++ gs) → FunctionsFit fs
functions_front [] gs h = tt
functions_front (f ∷ fs) gs h = (h.0, functions_front fs gs h.1)

functions_last : (fs : List Function) (f : Function) → FunctionsFit (fs ++ f ∷ []) → FitsPools (lines_of f)
functions_last [] f h = h.0
functions_last (g ∷ gs) f h = functions_last gs f h.1

-- the last function of a program fits
pub last_fits : (fs : List Function) (f : Function) → FunctionsFit (fs ++ f ∷ []) → FitsPools (lines_of f)
last_fits fs f h = functions_last fs f h

-- ---- drafts

if_before : (d : DraftState) (l : ℕ) → FitsDraft (with_if l d) → FitsDraft d
if_before d l h = grind (arith, front_fits, if_draft)

else_before : (ifs : List OpenIf) (lines : List CodeLine) → takes_else ifs ≡ true → FitsDraft (else_in ifs lines) →
    FitsDraft (record { lines = lines; ifs = ifs })
else_before [] lines t h = h
else_before (i ∷ is) lines t h = λ draft. front_fits lines _ (h (else_draft (i ∷ is) lines i refl t draft))

endif_front_by : (b : Bool) (x y : CodeLine) (lines : List CodeLine) →
    FitsPools (if b then lines ++ y ∷ [] else (lines ++ x ∷ []) ++ y ∷ []) → FitsPools lines
endif_front_by true x y lines h = front_fits lines (y ∷ []) h
endif_front_by false x y lines h = front_fits lines (x ∷ []) (front_fits (lines ++ x ∷ []) (y ∷ []) h)

endif_before : (e : ℕ) (ifs : List OpenIf) (lines : List CodeLine) → FitsDraft (endif_in e ifs lines) →
    FitsDraft (record { lines = lines; ifs = ifs })
endif_before e [] lines h = h
endif_before e (i ∷ is) lines h = λ draft.
    endif_front_by i.has_else _ _ lines (h (endif_draft e (i ∷ is) lines i refl draft))

-- ---- words

abbrev Fits : Parse → Type 0
Fits p = FunctionsFit p.functions × FitsDraft p.draft

-- one of two
either : (b : Bool) (p q r : Parse) → (b ≡ true → Fits q → Fits p) →
    (b ≡ false → Fits r → Fits p) → Fits (if b then q else r) → Fits p
either true p q r f g h = f refl h
either false p q r f g h = g refl h

slot_before : (k : Keyword) (begun : ℕ) (slots : List WordSlot) (p : Parse) → Fits (after_slot k begun slots p) →
    Fits p
slot_before k begun slots p h = grind (arith, nat_tests, front_fits, item_draft)

in_slot_before : (s : WordSlot) (k : Keyword) (begun : ℕ) (t : List ℕ) (l : ℕ) (p : Parse) →
    Fits (in_slot s k begun t l p) → Fits p
in_slot_before s k begun t l p h = grind (arith, nat_tests, front_fits, item_draft)

in_list_before : (k : Keyword) (begun : ℕ) (t : List ℕ) (l : ℕ) (p : Parse) → Fits (in_list k begun t l p) →
    Fits p
in_list_before k begun t l p h = grind (arith, slot_before)

outside_before : (x : Head) (l : ℕ) (p : Parse) → Fits (outside x l p) → Fits p
outside_before x l p h = grind (arith, nat_tests)

name_before : (t : List ℕ) (l : ℕ) (p : Parse) → Fits (after_name t l p) → Fits p
name_before t l p h = search (rules)

return_before : (l : ℕ) (p : Parse) → is_open p.draft.ifs ≡ false → Fits (after_return l p) → Fits p
return_before l p closed h =
    grind (arith, nat_tests, functions_front, whole_draft, front_fits, function_lines, functions_last)

inside_before : (x : Head) (slots : List WordSlot) (l : ℕ) (p : Parse) → Fits (inside x slots l p) → Fits p
inside_before head.Return slots l p h = grind (arith, nat_tests, either, return_before)
inside_before head.If slots l p h = grind (arith, nat_tests, either, if_before)
inside_before head.Else slots l p h = grind (arith, nat_tests, either, else_before)
inside_before head.Endif slots l p h = grind (arith, nat_tests, either, endif_before)
inside_before (head.Start k) slots l p h = slot_before k l slots p h
inside_before _ slots l p h = h

place_before : (x : Place) (t : List ℕ) (l : ℕ) (p : Parse) → Fits (at_place x t l p) → Fits p
place_before Outside t l p h = outside_before (head_of t) l p h
place_before Name t l p h = name_before t l p h
place_before InsideOrInt t l p h = grind (arith, inside_before (head_of t) (slots_of t) l p)
place_before (Words k s begun) t l p h = in_slot_before s k begun t l p h
place_before (Elements k begun opened) t l p h = in_list_before k begun t l p h
place_before Inside t l p h = inside_before (head_of t) (slots_of t) l p h

pub word_before : (t : List ℕ) (l : ℕ) (p : Parse) → FitsParse (take t l p) → FitsParse p
unfolding take
word_before t l p h = grind (arith, place_before)

-- ---- bytes

ends_before : (t : List ℕ) (s : Scan Parse) → FitsParse (ends_word take t s).found → FitsParse s.found
ends_before t s h = grind (arith, common_steps, word_before)

-- a byte that is a word by itself comes after the end of the open word
pub lone_before : (b : ℕ) (s : Scan Parse) → FitsParse (lone_word take b s).found → FitsParse s.found
unfolding lone_word
lone_before b s h = word_before (b ∷ []) s.line s.found h

byte_before : (o : Option ℕ) (c : Class) (b : ℕ) (s : Scan Parse) → FitsParse (by_comment take o c b s).found →
    FitsParse s.found
unfolding end_word lone_word
byte_before o c b s h = grind (arith, nat_tests, ends_before, word_before)

bytes_before : (bs : List ℕ) (s : Scan Parse) → FitsParse (scan_all take s bs).found → FitsParse s.found
unfolding scan_all scan_byte
bytes_before [] s h = h
bytes_before (b ∷ bs) s h = byte_before s.comment (class_of b) b s (bytes_before bs (scan_byte take s b) h)

-- what is read so far fits, if it does after more of the text
pub text_before : (s : Scan Parse) (text : List ℕ) → FitsText s text → FitsParse s.found
unfolding end_word
text_before s text h = grind (arith, nat_tests, bytes_before, word_before)

-- what fits after a text fits after the rest, from what the front made
pub rest_fits : (s n : Scan Parse) (all rest : List ℕ) → scan_all take s all ≡ scan_all take n rest → FitsText s all →
    FitsText n rest
rest_fits s n all rest e h = grind (arith)

-- what the front made fits
pub front_read : (s n : Scan Parse) (all rest : List ℕ) → scan_all take s all ≡ scan_all take n rest → FitsText s all →
    FitsParse n.found
front_read s n all rest e h = grind (arith, text_before)

pub first_byte_fits : (s : Scan Parse) (b : ℕ) (rest all : List ℕ) → all ≡ b ∷ rest → FitsText s all →
    FitsParse (scan_byte take s b).found
unfolding scan_all
first_byte_fits s b rest all e h = grind (arith, nat_tests, text_before)

-- an open word that ends
pub open_word_fits : (s : Scan Parse) → 1 ≤ length s.word → FitsParse (end_word take s).found →
    FitsParse (take s.word s.line s.found)
unfolding end_word
open_word_fits s some h = grind (arith, nat_tests)

-- a byte that is a word by itself ends the open word
abbrev pub IsLone : Class → Type 0
IsLone c = (c ≡ CloseBrace) ⊎ ((c ≡ Parenthesis) ⊎ (c ≡ Refused))

pub lone_is_read : (c : Class) → IsLone c → (b : ℕ) (s : Scan Parse) → FitsParse (in_text take c b s).found →
    FitsParse (lone_word take b (end_word take s)).found
lone_is_read c lone b s h = grind (arith, nat_tests)

-- a byte that is a word by itself is read
pub ruleset lone_steps = (common_steps, lone_before, lone_is_read)
