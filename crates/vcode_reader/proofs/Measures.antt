-- How much is read of a text: what a word and a byte add at most.
use Rattle.vcode_reader.specs.Parsing.{after_part, one_element, Parse, after_name, after_return, after_slot, at_place}
use Rattle.vcode_reader.specs.Parsing.{in_list, in_slot, inside, outside, start, take, with_count, with_kind}
use Rattle.vcode_reader.specs.Parsing.{with_value, word_in}
use Rattle.vcode_reader.specs.Numbers.{value_of}
use Rattle.std.proofs.lemmas.Bool.Decides.{nat_tests}
use Rattle.std.proofs.Common.{rules, ◌≡◌, ℕ, suc, ℤ, ◌+◌, ◌^◌, ◌<◌, ◌≤◌, Bool, true, false, List, [], ◌∷◌, ◌++◌, Option}
use Rattle.std.proofs.Common.{Result, Ok, Err, refl, ap, arith, length, length-append}
use Rattle.std.specs.Prelude.{if◌then◌else◌}
use Rattle.std.specs.List.{All}
use Rattle.std.proofs.lemmas.List.Elements.{All-nil, All-cons, All-tail, All-push}
use Rattle.vcode_base.specs.declared.instr.Instr.TheVariants.{Return}
use Rattle.vcode_base.specs.declared.kind.Scalar.{Scalar}
use Rattle.vcode_reader.specs.declared.class.Class.{Class}
use Rattle.vcode_reader.specs.declared.fault.CodeFault.{CodeFault}
use Rattle.vcode_reader.specs.declared.head.Head.{Head}
use Rattle.vcode_reader.specs.declared.keyword.Entries.{Entries}
use Rattle.vcode_reader.specs.declared.keyword.Keyword.{Keyword}
use Rattle.vcode_reader.specs.declared.keyword.WordSlot.{WordSlot}
use Rattle.vcode_reader.specs.declared.line.CodeItem.TheVariants as code_item
use Rattle.vcode_reader.specs.declared.place.OpenIf.{OpenIf}
use Rattle.vcode_reader.specs.declared.place.Place.{Place}
use Rattle.vcode_reader.specs.declared.place.Place.TheVariants.{Outside, Name, Inside, InsideOrInt, Words, Elements}
use Rattle.vcode_reader.specs.declared.reader.TheConstants.{MOST_CODE_BYTES}
use Rattle.vcode_reader.specs.Classes.{class_of}
use Rattle.vcode_reader.specs.Drafts.{no_lines, with_item, with_if, with_else, with_endif, DraftState, IsDraft, else_in}
use Rattle.vcode_reader.specs.Drafts.{endif_in, is_open, open_if, takes_else}
use Rattle.vcode_reader.specs.Decode.{tree_of}
use Rattle.vcode_reader.specs.Trees.{body_lines, Item, CodeLine, Function, instruction_line, line_of, lines_of}
use Rattle.vcode_reader.specs.Heads.{head_of, slots_of}
use Rattle.vcode_reader.specs.Keywords.{ItemParts, instruction_of}
use Rattle.vcode_reader.specs.Pools.{all_lists, all_names, list_in, list_of, name_in, name_of}
use Rattle.vcode_reader.specs.Room.{AreNear, AreTogether, FitsPools, FitsText, FunctionsFit, FitsParse}
use Rattle.vcode_reader.specs.Scan.{Scan, beginning, by_comment, end_word, ends_word, lone_word, scan_all, scan_byte}
use Rattle.vcode_reader.proofs.Drafting.{else_draft, endif_draft, if_draft, item_draft, no_draft, whole_draft}
use Rattle.vcode_reader.proofs.Pooling.{length-lists_more, length-names_more}
use Rattle.std.proofs.lemmas.Grind.{common_steps}
use Rattle.vcode_reader.specs.Reading.{IsOfBytes, ReaderState}
use Rattle.vcode_reader.proofs.Pieces.{scan_all-append}

-- ---- numbers of lines

-- the number of the first of the lines, or this one
abbrev number_from : List CodeLine → ℕ → ℕ
number_from [] n = n
number_from (x ∷ xs) n = x.number

-- a line of this number may follow these lines, in a text whose first line is `first` and whose open line is `last`
record Follows (first last : ℕ) (lines : List CodeLine) (n : ℕ) : Type 0 where
  pub low : first ≤ n
  pub high : n ≤ last
  pub behind : number_from lines n ≤ n

abbrev LinesFollow : ℕ → ℕ → List CodeLine → List CodeLine → Type 0
LinesFollow first last lines xs = All (λ (x : CodeLine). Follows first last lines x.number) xs

abbrev IfsFollow : ℕ → ℕ → List CodeLine → List OpenIf → Type 0
IfsFollow first last lines ifs = All (λ (i : OpenIf). Follows first last lines i.line) ifs

-- the line at which the open instruction begins
abbrev PlaceFollows : ℕ → ℕ → List CodeLine → Place → Type 0
PlaceFollows first last lines (Words k s begun) = Follows first last lines begun
PlaceFollows first last lines (Elements k begun opened) = Follows first last lines begun
PlaceFollows first last lines _ = Unit {0}

-- after one line more
follows_more : {first last : ℕ} {lines : List CodeLine} {n : ℕ} (x : CodeLine) → 1 ≤ length lines →
    Follows first last lines n → Follows first last (lines ++ x ∷ []) n
follows_more {lines} x some f = grind (arith, nat_tests)

follows_self : {first last : ℕ} {lines : List CodeLine} (x : CodeLine) → Follows first last lines x.number →
    Follows first last (lines ++ x ∷ []) x.number
follows_self {lines} x f = grind (arith, nat_tests)

last_follows : {first last : ℕ} (lines : List CodeLine) → first ≤ last → LinesFollow first last lines lines →
    Follows first last lines last
last_follows [] low f = record { low = low; high = omega arith; behind = omega arith }
last_follows (x ∷ xs) low f =
    let here = f 0 x (omega arith) in record { low = low; high = omega arith; behind = here.high }

near_all : (first last : ℕ) (x : CodeLine) (xs ys : List CodeLine) → last < first + 2 ^ 32 → first ≤ x.number →
    LinesFollow first last (x ∷ xs) ys → AreNear x.number ys
near_all first last x xs [] short low f = tt
near_all first last x xs (y ∷ ys) short low f =
    let here = f 0 y (omega arith) in
    (here.behind, omega arith, near_all first last x xs ys short low (λ k z within. f (suc k) z (omega arith)))

together : (first last : ℕ) (lines : List CodeLine) → last < first + 2 ^ 32 → LinesFollow first last lines lines →
    AreTogether lines
together first last [] short f = tt
together first last (x ∷ xs) short f =
    let here = f 0 x (omega arith) in
    near_all first last x xs xs short here.low (λ k z within. f (suc k) z (omega arith))

-- ---- drafts

-- a draft whose lines and open IFs are at most `count`
record Drafted (first last count : ℕ) (lines : List CodeLine) (ifs : List OpenIf) : Type 0 where
  pub few : length lines + length ifs ≤ count
  pub nested : length ifs ≤ length lines
  pub numbers : LinesFollow first last lines lines
  pub ifs_follow : IfsFollow first last lines ifs

drafted_more : {first last last2 count count2 : ℕ} {lines : List CodeLine} {ifs : List OpenIf} → last ≤ last2 →
    count ≤ count2 → Drafted first last count lines ifs → Drafted first last2 count2 lines ifs
drafted_more h m d = grind (arith, nat_tests)

-- one line more
drafted_then : {first last count : ℕ} {lines : List CodeLine} {ifs : List OpenIf} (x : CodeLine) →
    Drafted first last count lines ifs → Follows first last lines x.number →
    Drafted first last (count + 1) (lines ++ x ∷ []) ifs
drafted_then {first} {last} {lines = lines} x d f =
    grind (arith, common_steps, length-append, All-push, follows_more, follows_self)

drafted_fits : {first last count : ℕ} {lines : List CodeLine} {ifs : List OpenIf} →
    Drafted first last count lines ifs → count < 2 ^ 32 → last < first + 2 ^ 32 → length (all_lists lines) < 2 ^ 32 →
    length (all_names lines) < 2 ^ 32 → FitsPools lines
drafted_fits d few short lists names = search (arith, together)

if_drafted : {first last count : ℕ} {lines : List CodeLine} {ifs : List OpenIf} → first ≤ last →
    Drafted first last count lines ifs →
    Drafted first last (count + 2) (lines ++ line_of code_item.If last ∷ []) (open_if last false ∷ ifs)
if_drafted {first} {last} {lines = lines} {ifs = ifs} low d =
    let follows = last_follows lines low d.numbers in
    let grown = drafted_then (line_of code_item.If last) d follows in
    grind (arith, length-append, All-cons, follows_self)

else_drafted : {first last count : ℕ} {lines : List CodeLine} (ifs : List OpenIf) →
    Drafted first last count lines ifs →
    Drafted first last (count + 1) (else_in ifs lines).lines (else_in ifs lines).ifs
else_drafted [] d = drafted_more (omega arith) (omega arith) d
else_drafted {first} {last} {lines = lines} (i ∷ is) d =
    let grown = drafted_then (line_of code_item.Else i.line) d (d.ifs_follow 0 i (omega arith)) in
    search (rules, arith, All-cons, All-tail, grown.ifs_follow 0 i (omega arith))

endif_by : (b : Bool) {first last count : ℕ} {lines : List CodeLine} (i : OpenIf) (is : List OpenIf) → first ≤ last →
    Drafted first last count lines (i ∷ is) →
    Drafted first last (count + 2)
    (if b then lines ++ line_of code_item.Endif last ∷ []
    else (lines ++ line_of code_item.Else i.line ∷ []) ++ line_of code_item.Endif last ∷ []) is
endif_by true {lines = lines} i is low d =
    let grown = drafted_then (line_of code_item.Endif _) d (last_follows lines low d.numbers) in
    search (rules, arith, All-tail, grown.few)
endif_by false i is low d =
    let between = drafted_then (line_of code_item.Else i.line) d (d.ifs_follow 0 i (omega arith)) in
    let grown = drafted_then (line_of code_item.Endif _) between (last_follows _ low between.numbers) in
    search (rules, arith, All-tail, grown.few)

endif_drafted : {first last count : ℕ} {lines : List CodeLine} (ifs : List OpenIf) → first ≤ last →
    Drafted first last count lines ifs →
    Drafted first last (count + 2) (endif_in last ifs lines).lines (endif_in last ifs lines).ifs
endif_drafted [] low d = drafted_more (omega arith) (omega arith) d
endif_drafted (i ∷ is) low d = endif_by i.has_else i is low d

-- ---- the lists and names of drafts

abbrev lists_in : List CodeLine → ℕ
lists_in lines = length (all_lists lines)

abbrev names_in : List CodeLine → ℕ
names_in lines = length (all_names lines)

-- an IF, an ELSE, an ENDIF have neither
record Bare (lines more : List CodeLine) : Type 0 where
  pub lists : lists_in more ≡ lists_in lines
  pub names : names_in more ≡ names_in lines

bare_line : (lines : List CodeLine) (x : CodeLine) → list_of x.item ≡ [] → name_of x.item ≡ [] →
    Bare lines (lines ++ x ∷ [])
bare_line lines x list name = grind (arith, nat_tests, length-lists_more, length-names_more)

else_in_bare : (ifs : List OpenIf) (lines : List CodeLine) → Bare lines (else_in ifs lines).lines
else_in_bare ifs lines = grind (arith, nat_tests, length-lists_more, length-names_more)

endif_in_bare : (e : ℕ) (ifs : List OpenIf) (lines : List CodeLine) → Bare lines (endif_in e ifs lines).lines
endif_in_bare e ifs lines = grind (arith, nat_tests, length-lists_more, length-names_more)

list_within : (k : Keyword) (q : ItemParts) → length (list_in (instruction_of k q)) ≤ length q.numbers
list_within k q = grind arith

name_within : (k : Keyword) (q : ItemParts) → length (name_in (instruction_of k q)) ≤ length q.callee
name_within k q = grind arith

-- ---- words

-- a draft of at most `count` lines and open IFs
unfoldable Drafts : ℕ → ℕ → ℕ → DraftState → Type 0
Drafts first last count d = IsDraft d.ifs d.lines × Drafted first last count d.lines d.ifs

-- what words of `size` bytes have given
record Given (first last count size : ℕ) (functions : List Function) (draft : DraftState) (parts : ItemParts)
    (place : Place) : Type 0 where
  pub functions_fit : FunctionsFit functions
  pub drafts : Drafts first last count draft
  pub lists : lists_in draft.lines + length parts.numbers ≤ size
  pub names : names_in draft.lines + length parts.callee ≤ size
  pub begun_follows : PlaceFollows first last draft.lines place

abbrev Sized : ℕ → ℕ → ℕ → ℕ → Parse → Type 0
Sized first last count size p = Given first last count size p.functions p.draft p.parts p.place

drafts_more : (first last last2 count count2 : ℕ) (d : DraftState) → last ≤ last2 → count ≤ count2 →
    Drafts first last count d → Drafts first last2 count2 d
unfolding Drafts
drafts_more first last last2 count count2 d h m (is, more) = (is, drafted_more h m more)

given_more : {first last last2 count count2 size size2 : ℕ} {functions : List Function} {draft : DraftState}
    {parts : ItemParts} {place : Place} → last ≤ last2 → count ≤ count2 → size ≤ size2 →
    Given first last count size functions draft parts place → Given first last2 count2 size2 functions draft parts place
given_more {first} {last} {last2} {count} {count2} {draft = draft} {place = place} h m n s =
    let more = drafts_more first last last2 count count2 draft h m s.drafts in
    grind arith

-- a word of `m` bytes gives no more than these
record GivesFew (parts next : ItemParts) (m : ℕ) : Type 0 where
  pub numbers : length next.numbers ≤ length parts.numbers + m
  pub callee : length next.callee ≤ length parts.callee + m

-- what a word of `m` bytes gives
abbrev ResultFew : Result ItemParts CodeFault → ItemParts → ℕ → Type 0
ResultFew (Ok next) parts m = GivesFew parts next m
ResultFew (Err r) parts m = Unit {0}

kind_few : (o : Option Scalar) (q : ItemParts) (m : ℕ) → ResultFew (with_kind o q) q m
kind_few o q m = grind (arith, nat_tests)

value_few : (o : Option ℤ) (t : List ℕ) (q : ItemParts) (m : ℕ) → 1 ≤ m → ResultFew (with_value o t q) q m
value_few o t q m some = grind (arith, nat_tests)

count_few : (e : Entries) (r : Result ℕ CodeFault) (q : ItemParts) (m : ℕ) → ResultFew (with_count e r q) q m
count_few e r q m = grind (arith, nat_tests)

word_few : (w : WordSlot) (t : List ℕ) (q : ItemParts) → 1 ≤ length t → ResultFew (word_in w t q) q (length t)
word_few w t q some = grind (arith, kind_few, value_few, count_few)

else_is_draft : (ifs : List OpenIf) (lines : List CodeLine) → takes_else ifs ≡ true → IsDraft ifs lines →
    IsDraft (else_in ifs lines).ifs (else_in ifs lines).lines
else_is_draft [] lines t h = h
else_is_draft (i ∷ is) lines t h = else_draft (i ∷ is) lines i refl t h

endif_is_draft : (e : ℕ) (ifs : List OpenIf) (lines : List CodeLine) → IsDraft ifs lines →
    IsDraft (endif_in e ifs lines).ifs (endif_in e ifs lines).lines
endif_is_draft e [] lines h = h
endif_is_draft e (i ∷ is) lines h = endif_draft e (i ∷ is) lines i refl h

-- what a draft is after a word
module _ (first last count : ℕ) (d : DraftState) (h : Drafts first last count d) where
  kept : Drafts first last (count + 2) d
  kept = drafts_more first last last count (count + 2) d (omega arith) (omega arith) h

  item_kept : (i : Item) (l : ℕ) → Follows first last d.lines l → Drafts first last (count + 2) (with_item i l d)
  unfolding Drafts
  item_kept i l follows = (
    item_draft d.ifs d.lines i l h.0,
    drafted_more (omega arith) (omega arith) (drafted_then (instruction_line i l) h.1 follows),
  )

  if_kept : first ≤ last → Drafts first last (count + 2) (with_if last d)
  unfolding Drafts
  if_kept low = (if_draft d.ifs d.lines last h.0, if_drafted low h.1)

  else_kept : takes_else d.ifs ≡ true → Drafts first last (count + 2) (with_else d)
  unfolding Drafts
  else_kept takes = (
    else_is_draft d.ifs d.lines takes h.0,
    drafted_more (omega arith) (omega arith) (else_drafted d.ifs h.1),
  )

  endif_kept : first ≤ last → Drafts first last (count + 2) (with_endif last d)
  unfolding Drafts
  endif_kept low = (endif_is_draft last d.ifs d.lines h.0, endif_drafted d.ifs low h.1)

  now_follows : first ≤ last → Follows first last d.lines last
  unfolding Drafts
  now_follows low = last_follows d.lines low h.1.numbers

no_lines_kept : (first last count : ℕ) → Drafts first last count no_lines
unfolding Drafts
no_lines_kept first last count = (
  no_draft,
  record { few = omega arith; nested = omega arith; numbers = All-nil _; ifs_follow = All-nil _ },
)

slot_sized : (k : Keyword) (begun : ℕ) (slots : List WordSlot) (q : ItemParts) (m : ℕ) {first last count size : ℕ}
    (p : Parse) → GivesFew p.parts q m → Sized first last count size p → Follows first last p.draft.lines begun →
    Sized first last (count + 2) (size + m) (after_slot k begun slots (record p { parts = q }))
slot_sized k begun slots q m {first} {last} {count} p few s follows =
    let same = kept first last count p.draft s.drafts in
    let grown = item_kept first last count p.draft s.drafts (instruction_of k q) begun follows in
    grind (arith, length-lists_more, length-names_more, list_within k q, name_within k q)

part_sized : (r : Result ItemParts CodeFault) (k : Keyword) (begun l m : ℕ) {first last count size : ℕ} (p : Parse) →
    ResultFew r p.parts m → Sized first last count size p → Follows first last p.draft.lines begun →
    Sized first last (count + 2) (size + m) (after_part r k begun l p)
part_sized (Ok q) k begun l m p few s follows = slot_sized k begun p.slots q m p few s follows
part_sized (Err r) k begun l m p few s follows = given_more (omega arith) (omega arith) (omega arith) s

in_slot_sized : (w : WordSlot) (k : Keyword) (begun : ℕ) (t : List ℕ) (l : ℕ) {first last count size : ℕ} (p : Parse) →
    1 ≤ length t → Sized first last count size p → Follows first last p.draft.lines begun →
    Sized first last (count + 2) (size + length t) (in_slot w k begun t l p)
in_slot_sized w k begun t l {first} {last} {count} {size} p some s follows =
    let same = kept first last count p.draft s.drafts in
    grind (arith, part_sized (word_in w t p.parts) k begun l (length t) p (word_few w t p.parts some) s follows)

element_sized : (o : Option ℤ) (t : List ℕ) (l : ℕ) {first last count size : ℕ} (p : Parse) → 1 ≤ length t →
    Sized first last count size p → Sized first last (count + 2) (size + length t) (one_element o t l p)
element_sized o t l {first} {last} {count} p some s =
    let same = kept first last count p.draft s.drafts in
    grind (arith, length-append)

in_list_sized : (k : Keyword) (begun : ℕ) (t : List ℕ) (l : ℕ) {first last count size : ℕ} (p : Parse) →
    1 ≤ length t → Sized first last count size p → Follows first last p.draft.lines begun →
    Sized first last (count + 2) (size + length t) (in_list k begun t l p)
in_list_sized k begun t l p some s follows =
    let few : GivesFew p.parts p.parts (length t) = record { numbers = omega arith; callee = omega arith } in
    let taken = slot_sized k begun p.slots p.parts (length t) p few s follows in
    let element = element_sized (value_of p.parts.kind t) t l p some s in
    grind arith

outside_sized : (x : Head) (l m : ℕ) {first last count size : ℕ} (p : Parse) → Sized first last count size p →
    Sized first last (count + 2) (size + m) (outside x l p)
outside_sized x l m {first} {last} {count} p s = let same = kept first last count p.draft s.drafts in grind arith

name_sized : (t : List ℕ) (l m : ℕ) {first last count size : ℕ} (p : Parse) → Sized first last count size p →
    Sized first last (count + 2) (size + m) (after_name t l p)
name_sized t l m {first} {last} {count} p s = let same = kept first last count p.draft s.drafts in grind arith

-- what has to be small
record Small (first last count size : ℕ) : Type 0 where
  pub low : first ≤ last
  pub short : last < first + 2 ^ 32
  pub few : count + 2 < 2 ^ 32
  pub little : size < 2 ^ 32

functions_then : (fs : List Function) (f : Function) → FunctionsFit fs → FitsPools (lines_of f) →
    FunctionsFit (fs ++ f ∷ [])
functions_then [] f h k = (k, tt)
functions_then (g ∷ gs) f h k = (h.0, functions_then gs f h.1 k)

ended_fits : {first last count size : ℕ} (p : Parse) → is_open p.draft.ifs ≡ false → Small first last count size →
    Sized first last count size p →
    FitsPools (body_lines (tree_of p.draft.lines) ++ instruction_line Return last ∷ [])
unfolding Drafts
ended_fits {last = last} p closed small s =
    let x : CodeLine = instruction_line Return last in
    let lines = p.draft.lines in
    let grown = drafted_then x s.drafts.1 (last_follows lines small.low s.drafts.1.numbers) in
    rw (whole_draft p.draft.ifs lines closed s.drafts.0)
    (grind (arith, length-lists_more lines x, length-names_more lines x, drafted_fits grown))

return_sized : (m : ℕ) {first last count size : ℕ} (p : Parse) → is_open p.draft.ifs ≡ false →
    Small first last count size → Sized first last count size p →
    Sized first last (count + 2) (size + m) (after_return last p)
unfolding all_lists all_names
return_sized m {first} {last} {count} p closed small s = record {
  functions_fit = functions_then p.functions _ s.functions_fit (ended_fits p closed small s);
  drafts = no_lines_kept first last (count + 2);
  lists = omega (arith, s.lists);
  names = omega (arith, s.names);
  begun_follows = tt;
}

inside_sized : (x : Head) (slots : List WordSlot) (m : ℕ) {first last count size : ℕ} (p : Parse) →
    Small first last count size → Sized first last count size p →
    Sized first last (count + 2) (size + m) (inside x slots last p)
inside_sized x slots m {first} {last} {count} p small s =
    let same = kept first last count p.draft s.drafts in
    let begun = if_kept first last count p.draft s.drafts small.low in
    let other = else_kept first last count p.draft s.drafts in
    let ends = endif_kept first last count p.draft s.drafts small.low in
    let few : GivesFew p.parts p.parts m = record { numbers = omega arith; callee = omega arith } in
    let follows = now_follows first last count p.draft s.drafts small.low in
    let started = λ (k : Keyword). slot_sized k last slots p.parts m p few s follows in
    let ended = λ (closed : is_open p.draft.ifs ≡ false). return_sized m p closed small s in
    let one = bare_line p.draft.lines (line_of code_item.If last) refl refl in
    let two = else_in_bare p.draft.ifs p.draft.lines in
    let three = endif_in_bare last p.draft.ifs p.draft.lines in
    grind arith

little : {first last count size : ℕ} (m : ℕ) → Small first last count (size + m) → Small first last count size
little m h = grind arith

place_sized : (x : Place) (t : List ℕ) {first last count size : ℕ} (p : Parse) → 1 ≤ length t →
    PlaceFollows first last p.draft.lines x → Small first last count (size + length t) → Sized first last count size p →
    Sized first last (count + 2) (size + length t) (at_place x t last p)
place_sized Outside t {last = last} p some follows small s = outside_sized (head_of t) last (length t) p s
place_sized Name t {last = last} p some follows small s = name_sized t last (length t) p s
place_sized Inside t p some follows small s =
    inside_sized (head_of t) (slots_of t) (length t) p (little (length t) small) s
place_sized InsideOrInt t {first} {last} {count} p some follows small s =
    let same = kept first last count p.draft s.drafts in
    let other = inside_sized (head_of t) (slots_of t) (length t) p (little (length t) small) s in
    grind arith
place_sized (Words k w begun) t {last = last} p some follows small s = in_slot_sized w k begun t last p some s follows
place_sized (Elements k begun opened) t {last = last} p some follows small s =
    in_list_sized k begun t last p some s follows

word_sized : (t : List ℕ) {first last count size : ℕ} (p : Parse) → 1 ≤ length t →
    Small first last count (size + length t) → Sized first last count size p →
    Sized first last (count + 2) (size + length t) (take t last p)
unfolding take
word_sized t {first} {last} {count} p some small s =
    let same = kept first last count p.draft s.drafts in
    let other = place_sized p.place t p some s.begun_follows small s in
    grind arith

-- ---- bytes

-- `size` bytes have come, the open word among them
record Came (first size : ℕ) (found : Parse) (line : ℕ) (word : List ℕ) : Type 0 where
  pub read : ℕ
  pub within : read + length word ≤ size
  pub sized : Sized first line (read + read) read found
  pub low : first ≤ line
  pub high : line ≤ first + size

abbrev ScanSized : ℕ → ℕ → Scan Parse → Type 0
ScanSized first size s = Came first size s.found s.line s.word

-- the same in more bytes, and after an LF
came_more : {first size : ℕ} {found : Parse} {line : ℕ} {word : List ℕ} (more : ℕ) → Came first size found line word →
    Came first (size + more) found line word
came_more more h =
    record { read = h.read; within = omega arith; sized = h.sized; low = h.low; high = omega arith }

line_more : {first size : ℕ} {found : Parse} {line : ℕ} {word : List ℕ} → Came first size found line word →
    Came first (size + 1) found (line + 1) word
line_more h =
    let sized = given_more (omega arith) (omega arith) (omega arith) h.sized in
    record { read = h.read; within = omega arith; sized = sized; low = omega arith; high = omega arith }

-- a word ends, and this one is open then
word_came : {first size size2 : ℕ} {found : Parse} {line : ℕ} {word : List ℕ} (t rest : List ℕ) → 1 ≤ length t →
    size ≤ size2 → size2 ≤ MOST_CODE_BYTES → (h : Came first size found line word) →
    h.read + (length t + length rest) ≤ size2 → Came first size2 (take t line found) line rest
word_came {found = found} t rest some more most h fits =
    let small : Small _ _ (h.read + h.read) (h.read + length t) =
    record { low = h.low; short = omega arith; few = omega arith; little = omega arith } in
    let read = given_more (omega arith) (omega arith) (omega arith) (word_sized t found some small h.sized) in
    record { read = h.read + length t; within = omega arith; sized = read; low = h.low; high = omega arith }

ends_came : (t : List ℕ) {first size : ℕ} (s : Scan Parse) → s.word ≡ t → size ≤ MOST_CODE_BYTES →
    ScanSized first size s → ScanSized first size (ends_word take t s)
ends_came [] s same most h = h
ends_came (b ∷ t) s same most h =
    word_came (b ∷ t) [] (omega arith) (omega arith) most h (omega (arith, ap length same))

end_sized : {first size : ℕ} (s : Scan Parse) → size ≤ MOST_CODE_BYTES → ScanSized first size s →
    ScanSized first size (end_word take s)
unfolding end_word
end_sized s most h = ends_came s.word s refl most h

lone_sized : (b : ℕ) {first size : ℕ} (s : Scan Parse) → size + 1 ≤ MOST_CODE_BYTES → ScanSized first size s →
    ScanSized first (size + 1) (lone_word take b s)
unfolding lone_word
lone_sized b s most h = word_came (b ∷ []) s.word (omega arith) (omega arith) most h (omega arith)

byte_sized : (o : Option ℕ) (c : Class) (b : ℕ) {first size : ℕ} (s : Scan Parse) → size + 1 ≤ MOST_CODE_BYTES →
    ScanSized first size s → ScanSized first (size + 1) (by_comment take o c b s)
byte_sized o c b s most h = grind (arith, end_sized, came_more, lone_sized, length-append, line_more)

text_sized : (bs : List ℕ) {first size : ℕ} (s : Scan Parse) → size + length bs ≤ MOST_CODE_BYTES →
    ScanSized first size s → ScanSized first (size + length bs) (scan_all take s bs)
unfolding scan_all scan_byte
text_sized [] s most h = came_more 0 h
text_sized (b ∷ bs) s most h =
    let next = byte_sized s.comment (class_of b) b s (omega arith) h in
    grind (arith, text_sized bs (scan_byte take s b) (omega arith) next)

nothing_sized : (first : ℕ) → ScanSized first 0 (beginning start first)
unfolding all_lists all_names
nothing_sized first = let none = no_lines_kept first first 0 in grind arith

-- a code of at most the bytes that it may have
pub text_fits : (first : ℕ) (text : List ℕ) → length text ≤ MOST_CODE_BYTES → FitsText (beginning start first) text
unfolding Drafts
text_fits first text most =
    let h = end_sized (scan_all take (beginning start first) text) (omega arith)
    (text_sized text (beginning start first) (omega arith) (nothing_sized first)) in
    record {
      functions = h.sized.functions_fit;
      draft = λ _. drafted_fits h.sized.drafts.1 (omega arith) (omega arith) (omega arith) (omega arith);
    }

-- ---- a text of a length fits

-- one piece more
pub piece_fits : (s : Scan Parse) (first size : ℕ) (failed : Bool) (piece : List ℕ) → IsOfBytes s first size failed →
    failed ≡ false → size + length piece ≤ MOST_CODE_BYTES → FitsText s piece
piece_fits s first size failed piece of_bytes going within =
    let b = of_bytes going in
    grind (arith, length-append, scan_all-append, text_fits first (b.0 ++ piece))

-- the end of the text
pub end_fits : (s : Scan Parse) (first size : ℕ) (failed : Bool) → IsOfBytes s first size failed → failed ≡ false →
    FitsParse (end_word take s).found
end_fits s first size failed of_bytes going = grind (arith, nat_tests, text_fits)

pub size_within : {o r : ReaderState} → o ≡ r → o.failed ≡ false → (n : ℕ) →
    (r.failed ≡ false → r.size + n ≤ MOST_CODE_BYTES) → o.size + n ≤ MOST_CODE_BYTES
size_within {o} {r} v going n h = grind (arith, nat_tests)
