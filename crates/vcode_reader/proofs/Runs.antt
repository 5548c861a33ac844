-- What the words of the grammar give: the program that it relates to them.
use Rattle.std.proofs.lemmas.Bool.Decides.{nat_tests}
use Rattle.std.proofs.Common.{◌≡◌, ◌≢◌, ℕ, suc, ℤ, ◌<◌, ◌≤◌, Bool, true, false, inl, inr, List, [], ◌∷◌, ◌++◌, length}
use Rattle.std.proofs.Common.{Some, None, refl, arith, ap, ◌∙◌, sym, codes, append_assoc, length-append}
use Rattle.std.specs.List.{AllByRecursion}
use Rattle.std.specs.Str.{bytes_eq}
use Rattle.std.proofs.lemmas.Slice.Eq.{bytes_eq-Decides}
use Rattle.std.proofs.lemmas.List.{append-nil}
use Rattle.std.proofs.lemmas.Bool.{false_from_ne_true, lt-ltb, le-ltb}
use Rattle.vcode_base.specs.declared.kind.Scalar.{Scalar}
use Rattle.vcode_base.specs.declared.limits.TheConstants.{LONGEST_NAME, MOST_FUNCTIONS, MOST_OPEN_IFS, MOST_ELEMENTS}
use Rattle.vcode_reader.specs.declared.head.Head.{Head}
use Rattle.vcode_reader.specs.declared.head.Head.TheVariants as head
use Rattle.vcode_reader.specs.declared.keyword.Keyword.{Keyword}
use Rattle.vcode_reader.specs.declared.keyword.WordSlot.{WordSlot}
use Rattle.vcode_reader.specs.declared.keyword.WordSlot.TheVariants.{Values}
use Rattle.vcode_reader.specs.declared.place.Place.{Place}
use Rattle.vcode_reader.specs.declared.place.Place.TheVariants.{Name, Words, Elements}
use Rattle.vcode_reader.specs.Decode.{tree_of, tree_of-body_lines}
use Rattle.vcode_reader.specs.declared.line.CodeItem.TheVariants as code_item
use Rattle.vcode_reader.specs.declared.place.OpenIf.{OpenIf}
use Rattle.vcode_reader.specs.Drafts.{open_if}
use Rattle.vcode_reader.specs.First.{run}
use Rattle.vcode_reader.specs.Gram.{IsName, Fits, AreValues, AreListed, FillOne, Fill, MayBeInt, IsHead, IsInstruction}
use Rattle.vcode_reader.specs.Gram.{IsElse, IsBody, IsFunction, AreFunctions, NamesDiffer, Gram}
use Rattle.vcode_reader.specs.Heads.{rows, head_of, slots_of}
use Rattle.vcode_reader.specs.Keywords.{ItemParts, no_parts, takes_int, instruction_of}
use Rattle.vcode_reader.specs.Numbers.{number_of, natural_of, truth_of, value_of}
use Rattle.vcode_reader.specs.Parsing.{Parse, start, take, item_place, after_slot, inside, outside, has_name}
use Rattle.vcode_reader.specs.Scan.{Word}
use Rattle.vcode_reader.specs.Trees.{Item, Body, End, Do, Choice, CodeLine, Function, line_of, instruction_line}
use Rattle.vcode_reader.specs.Trees.{body_lines}

-- ---- runs

pub run-append : (p : Parse) (u v : List Word) → run p (u ++ v) ≡ run (run p u) v
unfolding run
run-append p [] v = refl
run-append p (w ∷ u) v = run-append (take w.text w.line p) u v

pub no_run : (p : Parse) → run p [] ≡ p
unfolding run
no_run p = refl

pub word_run : (p q r : Parse) (w : Word) (ws : List Word) → take w.text w.line p ≡ q → run q ws ≡ r →
    run p (w ∷ ws) ≡ r
unfolding run
word_run p q r w ws e f = ap (λ x. run x ws) e ∙ f

-- ---- one word that fills a slot

paren_is_no_value : (k : Scalar) (c : ℕ) → value_of k (c ∷ []) ≡ None → (t : List ℕ) (n : ℤ) → value_of k t ≡ Some n →
    bytes_eq t (c ∷ []) ≡ false
paren_is_no_value k c h t n e = grind (arith, nat_tests, false_from_ne_true, bytes_eq-Decides)

-- ---- the states that the grammar leads to

-- a function that is open, after whole ones
pub record Open : Type 0 where
  pub functions : List Function
  pub name : List ℕ
  pub line : ℕ
  pub code : List CodeLine
  pub ifs : List OpenIf

unfoldable pub with_item : Open → Item → ℕ → Open
with_item o i l = record o { code = o.code ++ instruction_line i l ∷ [] }

unfoldable pub with_code : Open → List CodeLine → Open
with_code o code = record o { code = code }

-- an IF begins on this line
unfoldable pub if_at : Open → ℕ → Open
if_at o l = record o { code = o.code ++ line_of code_item.If l ∷ []; ifs = open_if l false ∷ o.ifs }

abbrev pub opened : List Function → List ℕ → ℕ → List CodeLine → List OpenIf → Open
opened fs name line code ifs = record { functions = fs; name = name; line = line; code = code; ifs = ifs }

-- a function that ends with its RET on this line
unfoldable pub closed_at : Open → ℕ → Function
closed_at o l = record { name = o.name; line = o.line; body = tree_of o.code; ret = l }

whole : (f : Function) (fs : List Function) (l : ℕ) → l ≡ f.ret →
    closed_at (record { functions = fs; name = f.name; line = f.line; code = body_lines f.body; ifs = [] }) l ≡ f
unfolding closed_at
whole f fs l e = grind (arith, tree_of-body_lines)

-- the lines of a choice, put together
regroup : (a x y b : List CodeLine) (i m n : CodeLine) →
    (((((a ++ i ∷ []) ++ x) ++ m ∷ []) ++ y) ++ n ∷ []) ++ b ≡ a ++ (i ∷ (x ++ (m ∷ (y ++ (n ∷ b)))))
regroup a x y b i m n = simp append_assoc

room : (done : List ℤ) (n : ℤ) (ns : List ℤ) → length (done ++ n ∷ ns) ≤ MOST_ELEMENTS → length done < MOST_ELEMENTS
room done n ns h = omega (arith, length-append done (n ∷ ns))

-- after some functions
unfoldable pub between : List Function → Parse
between fs = record start { functions = fs }

unfoldable pub naming_at : List Function → ℕ → Parse
naming_at fs l = record start { functions = fs; place = Name; line = l }

-- inside a function, at a place of an item, and if b also of a word INT
unfoldable pub within : Bool → Open → Parse
within b o = record {
  functions = o.functions;
  place = item_place b;
  name = o.name;
  line = o.line;
  draft = record { lines = o.code; ifs = o.ifs };
  slots = [];
  parts = no_parts;
  fault = None;
}

-- after some words of an instruction
unfoldable pub going : Keyword → ℕ → List WordSlot → ItemParts → Open → Parse
going k begun [] q o = within (takes_int k) (with_item o (instruction_of k q) begun)
going k begun (s ∷ slots) q o = record (within false o) { place = Words k s begun; slots = slots; parts = q }

-- in a list
unfoldable pub in_elements : Keyword → ℕ → ℕ → List WordSlot → ItemParts → Open → Parse
in_elements k begun opened slots q o =
    record (within false o) { place = Elements k begun opened; slots = slots; parts = q }

pub after_slot-going : (k : Keyword) (begun : ℕ) (slots : List WordSlot) (place : Place) (left : List WordSlot)
    (q : ItemParts) (o : Open) →
    after_slot k begun slots (record (within false o) { place = place; slots = left; parts = q })
    ≡ going k begun slots q o
unfolding within going with_item
after_slot-going k begun slots place left q o = grind (arith, nat_tests)

-- ---- the words of an instruction

known_not_int : (t : List ℕ) → (head_of t ≡ head.Other → ⊥) → bytes_eq t (codes "INT") ≡ false
unfolding head_of rows
known_not_int t h = grind (arith, nat_tests, false_from_ne_true, bytes_eq-Decides)

take_item : (b : Bool) (w : Word) (o : Open) {x : Head} → head_of w.text ≡ x → (x ≡ head.Other → ⊥) →
    take w.text w.line (within b o) ≡ inside x (slots_of w.text) w.line (within b o)
unfolding take within
take_item true w o h known = rw (known_not_int w.text (λ e. known (sym h ∙ e)), h) refl
take_item false w o h known = rw h refl

pub take_first : (b : Bool) (w : Word) (k : Keyword) (o : Open) → head_of w.text ≡ head.Start k →
    take w.text w.line (within b o) ≡ going k w.line (slots_of w.text) no_parts o
unfolding within take going with_item
take_first b w k o h = grind (arith, nat_tests, known_not_int)

pub take_int : (l : ℕ) (o : Open) → take (codes "INT") l (within true o) ≡ within false o
unfolding take within
take_int l o = refl

pub take_word : (s : WordSlot) (t : List ℕ) (q r : ItemParts) (k : Keyword) (begun l : ℕ) (slots : List WordSlot)
    (o : Open) → Fits s t q r →
    take t l (going k begun (s ∷ slots) q o) ≡ going k begun slots r o
unfolding take going within number_of truth_of natural_of with_item
take_word s t q r k begun l slots o h = grind (arith, nat_tests, paren_is_no_value, le-ltb)

pub take_open : (k : Keyword) (begun l : ℕ) (slots : List WordSlot) (q : ItemParts) (o : Open) →
    take (codes "(") l (going k begun (Values ∷ slots) q o)
    ≡ in_elements k begun l slots (record q { numbers = [] }) o
unfolding take going within in_elements
take_open k begun l slots q o = refl

pub take_close : (k : Keyword) (begun opened l : ℕ) (slots : List WordSlot) (q : ItemParts) (o : Open) →
    take (codes ")") l (in_elements k begun opened slots q o) ≡ going k begun slots q o
unfolding take within in_elements
take_close k begun opened l slots q o = after_slot-going k begun slots (Elements k begun opened) slots q o

take_element : (t : List ℕ) (n : ℤ) (k : Keyword) (begun opened l : ℕ) (slots : List WordSlot) (q : ItemParts)
    (o : Open) → value_of q.kind t ≡ Some n → length q.numbers < MOST_ELEMENTS →
    take t l (in_elements k begun opened slots q o)
    ≡ in_elements k begun opened slots (record q { numbers = q.numbers ++ n ∷ [] }) o
unfolding take within in_elements number_of truth_of
take_element t n k begun opened l slots q o h lt = grind (arith, nat_tests, paren_is_no_value, lt-ltb)

elements_run : (ns : List ℤ) (ws : List Word) (k : Keyword) (begun opened : ℕ) (slots : List WordSlot) (q : ItemParts)
    (o : Open) (done : List ℤ) → AreValues q.kind ns ws → length (done ++ ns) ≤ MOST_ELEMENTS →
    run (in_elements k begun opened slots (record q { numbers = done }) o) ws
    ≡ in_elements k begun opened slots (record q { numbers = done ++ ns }) o
unfolding run
elements_run [] [] k begun opened slots q o done h le = grind (arith, append-nil)
elements_run (n ∷ ns) (w ∷ ws) k begun opened slots q o done h le =
    let regroup : (done ++ n ∷ []) ++ ns ≡ done ++ n ∷ ns = append_assoc done (n ∷ []) ns in
    let one = take_element w.text n k begun opened w.line slots (record q { numbers = done }) o h.0
    (room done n ns le) in
    let rest = elements_run ns ws k begun opened slots q o (done ++ n ∷ []) h.1 (rw regroup le) in
    grind arith
elements_run _ _ k begun opened slots q o done h le = absurd h

list_run : (before after : ItemParts) (ws : List Word) (k : Keyword) (begun : ℕ) (slots : List WordSlot) (o : Open) →
    AreListed before after ws →
    run (going k begun (Values ∷ slots) before o) ws ≡ going k begun slots after o
unfolding run
list_run before after ws k begun slots o (opened, closed, inner, ns, e, f, g, le, h, r) =
    let all = elements_run ns inner k begun opened.line slots before o [] h le in
    grind (arith, run-append, take_open, take_close)

one_run : (s : WordSlot) (before after : ItemParts) (ws : List Word) (k : Keyword) (begun : ℕ) (slots : List WordSlot)
    (o : Open) → FillOne s before after ws →
    run (going k begun (s ∷ slots) before o) ws ≡ going k begun slots after o
unfolding run
one_run s before after ws k begun slots o fill = grind (arith, take_word, list_run)

fill_run : (slots : List WordSlot) (before after : ItemParts) (ws : List Word) (k : Keyword) (begun : ℕ) (o : Open) →
    Fill slots before after ws →
    run (going k begun slots before o) ws ≡ within (takes_int k) (with_item o (instruction_of k after) begun)
unfolding going run
fill_run [] before after ws k begun o (e, f) = grind arith
fill_run (s ∷ slots) before after ws k begun o (next, u, rest, e, i, h) =
    grind (arith, run-append, one_run s before next u k begun slots o i, fill_run slots next after rest k begun o h)

int_run : (b : Bool) (ws : List Word) (o : Open) → MayBeInt b ws → (c : Bool) × (run (within b o) ws ≡ within c o)
unfolding run
int_run b ws o (inl e) = (b, grind arith)
int_run b ws o (inr (t, w, e, h)) = (false, grind (arith, take_int))

pub instruction_run : (b : Bool) (i : Item) (l : ℕ) (ws : List Word) (o : Open) → IsInstruction i l ws →
    (c : Bool) × (run (within b o) ws ≡ within c (with_item o i l))
unfolding run
instruction_run b i l ws o (k, first, rest, last, q, e, h, f, g, m) =
    let (c, r) = int_run (takes_int k) last (with_item o (instruction_of k q) first.line) m in
    let filled = fill_run (slots_of first.text) no_parts q rest k first.line o g in
    (c, grind (arith, run-append, take_first b first k o h.0))

-- ---- bodies and functions

pub take_if : (b : Bool) (w : Word) (o : Open) → head_of w.text ≡ head.If → length o.ifs < MOST_OPEN_IFS →
    take w.text w.line (within b o) ≡ within false (if_at o w.line)
unfolding within if_at
take_if b w o h lt = take_item b w o h (λ e. cc) ∙ rw (lt-ltb (length o.ifs) MOST_OPEN_IFS lt) refl

-- inside an IF of a function with these lines
module _ (b : Bool) (w : Word) (fs : List Function) (name : List ℕ) (line : ℕ) (code : List CodeLine) where
  pub take_else : (l : ℕ) (is : List OpenIf) → head_of w.text ≡ head.Else →
      take w.text w.line (within b (opened fs name line code (open_if l false ∷ is)))
      ≡ within false (opened fs name line (code ++ line_of code_item.Else l ∷ []) (open_if l true ∷ is))
  unfolding within
  take_else l is h = take_item b w (opened fs name line code (open_if l false ∷ is)) h (λ e. cc)

  pub take_endif : (l : ℕ) (is : List OpenIf) → head_of w.text ≡ head.Endif →
      take w.text w.line (within b (opened fs name line code (open_if l true ∷ is)))
      ≡ within false (opened fs name line (code ++ line_of code_item.Endif w.line ∷ []) is)
  unfolding within
  take_endif l is h = take_item b w (opened fs name line code (open_if l true ∷ is)) h (λ e. cc)

  pub take_endif_alone : (l : ℕ) (is : List OpenIf) → head_of w.text ≡ head.Endif →
      let last = (code ++ line_of code_item.Else l ∷ []) ++ line_of code_item.Endif w.line ∷ [] in
      take w.text w.line (within b (opened fs name line code (open_if l false ∷ is)))
      ≡ within false (opened fs name line last is)
  unfolding within
  take_endif_alone l is h = take_item b w (opened fs name line code (open_if l false ∷ is)) h (λ e. cc)

  pub take_return : head_of w.text ≡ head.Return →
      take w.text w.line (within b (opened fs name line code []))
      ≡ between (fs ++ closed_at (opened fs name line code []) w.line ∷ [])
  unfolding within between closed_at
  take_return h = take_item b w (opened fs name line code []) h (λ e. cc)

-- a body after these lines
abbrev Runs : Bool → Body → List Word → Open → Type 0
Runs b body ws o = (c : Bool) × (run (within b o) ws ≡ within c (with_code o (o.code ++ body_lines body)))

-- what follows the first part of an IF, up to its ENDIF
second_run : (c : Bool) (l e : ℕ) (second : Body) (m : List Word) (end : Word) (fs : List Function) (name : List ℕ)
    (line : ℕ) (code : List CodeLine) (is : List OpenIf) →
    IsElse (IsBody (suc (length is)) second) second m → IsHead head.Endif e end →
    ((u : List Word) (o : Open) → IsBody (length o.ifs) second u → Runs false second u o) →
    run (within c (opened fs name line code (open_if l false ∷ is))) (m ++ end ∷ [])
    ≡ within false
    (opened fs name line
    (((code ++ line_of code_item.Else l ∷ []) ++ body_lines second) ++ line_of code_item.Endif e ∷ []) is)
unfolding with_code run
second_run c l e second m end fs name line code is (inl (none, f)) he more =
    grind (arith, append-nil, take_endif_alone c end fs name line code l is he.0)
second_run c l e second m end fs name line code is (inr (w, u, f, hw, hb)) he more =
    let between : List CodeLine = code ++ line_of code_item.Else l ∷ [] in
    let (d, r) = more u (opened fs name line between (open_if l true ∷ is)) hb in
    grind (arith, run-append, take_else, take_endif d end fs name line (between ++ body_lines second) l is he.0)

pub body_run : (b : Bool) (body : Body) (ws : List Word) (o : Open) → IsBody (length o.ifs) body ws →
    Runs b body ws o
unfolding with_item with_code if_at run
body_run b End ws o h = (b, grind (arith, append-nil))
body_run b (Do i l body) ws o (u, v, e, h, t) =
    let (c, r) = instruction_run b i l u o h in
    let (d, s) = body_run c body v (with_item o i l) t in
    (d, grind (arith, run-append, append_assoc))
body_run b (Choice l first second e body) ws o (begun, end, u, m, v, q, lt, hi, he, hf, hs, hr) =
    let (c, r) = body_run false first u (if_at o l) hf in
    let code : List CodeLine = (o.code ++ line_of code_item.If l ∷ []) ++ body_lines first in
    let s = second_run c l e second m end o.functions o.name o.line code o.ifs hs he
    (λ u2 o2 h2. body_run false second u2 o2 h2) in
    let last : List CodeLine =
    ((code ++ line_of code_item.Else l ∷ []) ++ body_lines second) ++ line_of code_item.Endif e ∷ [] in
    let (d, t) = body_run false body v (with_code o last) hr in
    (d, grind (arith, run-append, take_if b begun o hi.0 lt, append_assoc m (end ∷ []) v, regroup))

pub take_func : (w : Word) (fs : List Function) → head_of w.text ≡ head.Func → length fs < MOST_FUNCTIONS →
    take w.text w.line (between fs) ≡ naming_at fs w.line
unfolding take between naming_at
take_func w fs h lt = ap (λ x. outside x w.line (between fs)) h ∙ rw (lt-ltb (length fs) MOST_FUNCTIONS lt) refl

pub take_name : (t : List ℕ) (l k : ℕ) (fs : List Function) → IsName t → has_name t fs ≡ false →
    take t k (naming_at fs l) ≡ within false (record { functions = fs; name = t; line = l; code = []; ifs = [] })
unfolding take naming_at within
take_name t l k fs h new = rw (h.bare, h.good, le-ltb LONGEST_NAME (length t) h.short, new) refl

function_run : (f : Function) (ws : List Word) (fs : List Function) → IsFunction f ws →
    has_name f.name fs ≡ false → length fs < MOST_FUNCTIONS →
    run (between fs) ws ≡ between (fs ++ f ∷ [])
unfolding with_code run
function_run f ws fs (func, name, ret, u, e, wf, wn, good, hb, wr) new lt =
    let (c, r) =
    body_run false f.body u (record { functions = fs; name = f.name; line = f.line; code = []; ifs = [] }) hb in
    let begins = take_func func fs wf.0 lt in
    let named = take_name f.name f.line name.line fs good new in
    let ends = take_return c ret fs f.name f.line (body_lines f.body) wr.0 in
    grind (arith, run-append, whole f fs ret.line wr.1)

all_at : {A : Type 0} (P : A → Type 0) (xs : List A) (y : A) (zs : List A) → AllByRecursion P (xs ++ y ∷ zs) → P y
all_at P [] y zs h = h.0
all_at P (x ∷ xs) y zs h = all_at P xs y zs h.1

-- a function among others whose names differ has none of the earlier names
new_name : (done : List Function) (f : Function) (fs : List Function) → NamesDiffer (done ++ f ∷ fs) →
    has_name f.name done ≡ false
new_name [] f fs h = refl
new_name (d ∷ done) f fs h =
    grind (arith, bytes_eq-Decides, all_at (λ g. d.name ≢ g.name) done f fs h.0, new_name done f fs h.1)

fewer : (done : List Function) (f : Function) (fs : List Function) → length (done ++ f ∷ fs) ≤ MOST_FUNCTIONS →
    length done < MOST_FUNCTIONS
fewer done f fs h = omega (arith, length-append done (f ∷ fs))

functions_run : (fs done : List Function) (ws : List Word) → AreFunctions fs ws → NamesDiffer (done ++ fs) →
    length (done ++ fs) ≤ MOST_FUNCTIONS →
    run (between done) ws ≡ between (done ++ fs)
unfolding run
functions_run [] done ws h n l = grind (arith, append-nil)
functions_run (f ∷ fs) done ws (u, v, e, g, h) n l =
    let regroup : (done ++ f ∷ []) ++ fs ≡ done ++ f ∷ fs = append_assoc done (f ∷ []) fs in
    let one = function_run f u done g (new_name done f fs n) (fewer done f fs l) in
    grind (arith, run-append, functions_run fs (done ++ f ∷ []) v h (rw regroup n) (rw regroup l))

-- what is in the grammar is read, to its program
pub gram_run : (fs : List Function) (ws : List Word) → Gram fs ws → run start ws ≡ between fs
unfolding between
gram_run fs ws g = functions_run fs [] ws g.spelled g.differ g.few
