-- What the words so far are, if they have no fault: the place that they lead to, and the part of the grammar that
-- they spell.
use Rattle.std.proofs.Common.{◌≡◌, ◌≢◌, ℕ, suc, ℤ, ◌<◌, ◌≤◌, Bool, true, false, inl, inr, List, [], ◌∷◌, ◌++◌, length}
use Rattle.std.proofs.Common.{Option, Some, None, Result, Ok, Err, cond, refl, arith, ap, ◌∙◌, sym, subst, codes}
use Rattle.std.proofs.Common.{append_assoc, length-append, lit≤}
use Rattle.std.specs.Prelude.{nat_lt}
use Rattle.std.specs.List.{AllByRecursion}
use Rattle.std.specs.Str.{bytes_eq}
use Rattle.std.proofs.lemmas.Bool.Decides.{nat_tests}
use Rattle.std.proofs.lemmas.Slice.Eq.{bytes_eq-Decides}
use Rattle.std.proofs.lemmas.List.{append-nil}
use Rattle.std.proofs.lemmas.Bool.{or_parts, ltb-false}
use Rattle.vcode_base.specs.declared.kind.Scalar.{Scalar}
use Rattle.vcode_base.specs.declared.limits.TheConstants.{MOST_FUNCTIONS, MOST_OPEN_IFS, MOST_ELEMENTS}
use Rattle.vcode_reader.specs.declared.fault.CodeFault.{CodeFault}
use Rattle.vcode_reader.specs.declared.fault.CodeFault.TheVariants.{TooLarge}
use Rattle.vcode_reader.specs.declared.head.Head.{Head}
use Rattle.vcode_reader.specs.declared.head.Head.TheVariants as head
use Rattle.vcode_reader.specs.declared.keyword.Keyword.{Keyword}
use Rattle.vcode_reader.specs.declared.keyword.WordSlot.{WordSlot}
use Rattle.vcode_reader.specs.declared.keyword.WordSlot.TheVariants.{Values}
use Rattle.vcode_reader.specs.declared.place.Place.TheVariants.{Words, Elements}
use Rattle.vcode_reader.specs.declared.line.CodeItem.TheVariants as code_item
use Rattle.vcode_reader.specs.declared.place.OpenIf.{OpenIf}
use Rattle.vcode_reader.specs.Drafts.{Closing, open_if, first_closing, other_closings, endings}
use Rattle.vcode_reader.specs.Decode.{tree_of, tree_of-body_lines}
use Rattle.vcode_reader.specs.First.{run}
use Rattle.vcode_reader.specs.Gram.{IsHead, AreValues, FillOne, Fill, MayBeInt, IsInstruction, IsElse, IsBody, IsName}
use Rattle.vcode_reader.specs.Gram.{IsFunction, AreFunctions, NamesDiffer, Gram, Fits}
use Rattle.vcode_reader.specs.Heads.{head_of, slots_of}
use Rattle.vcode_reader.specs.Keywords.{ItemParts, no_parts, takes_int, instruction_of}
use Rattle.vcode_reader.specs.Numbers.{value_of, natural_of}
use Rattle.vcode_reader.specs.Parsing.{Parse, start, take, with_fault, at_place, item_place, inside, outside}
use Rattle.vcode_reader.specs.Parsing.{after_name, after_part, word_in, begins_list, in_slot, in_list, one_element}
use Rattle.vcode_reader.specs.Parsing.{has_name}
use Rattle.vcode_reader.specs.Refusals.{Fault}
use Rattle.vcode_reader.specs.Scan.{Word}
use Rattle.vcode_reader.specs.Trees.{Item, Body, End, Do, Choice, CodeLine, Function, line_of, instruction_line}
use Rattle.vcode_reader.specs.Trees.{body_lines}
use Rattle.vcode_reader.proofs.Drafting.{closing, item_endings, if_endings, else_endings, endif_endings, alone_endings}
use Rattle.vcode_reader.proofs.Runs.{no_run, word_run, Open, with_item, between, naming_at, within, going, in_elements}
use Rattle.vcode_reader.proofs.Runs.{after_slot-going, closed_at, if_at, opened}

-- ---- slots

-- a word that is taken in a slot fits it
pub given_fits : (s : WordSlot) (t : List ℕ) (q r : ItemParts) → word_in s t q ≡ Ok r → Fits s t q r
unfolding natural_of
given_fits s t q r h = grind (arith, nat_tests, bytes_eq-Decides, or_parts, ltb-false)

-- a list begins in one slot alone, with its parenthesis
pub list_begins : (s : WordSlot) (t : List ℕ) → begins_list s t ≡ true → (s ≡ Values) × (t ≡ codes "(")
list_begins s t h = grind (arith, nat_tests, bytes_eq-Decides)

-- ---- faults

pub some_none : {A B : Type 0} (o : Option A) (x : A) → o ≡ Some x → o ≡ None → B
some_none o x h k = cc

some_is_none : {A B : Type 0} (x : A) → Some x ≡ None → B
some_is_none x h = cc

-- ---- parts of the grammar that grow

all_then : {A : Type 0} (P : A → Type 0) (xs : List A) (y : A) → AllByRecursion P xs → P y →
    AllByRecursion P (xs ++ y ∷ [])
all_then P [] y h k = (k, tt)
all_then P (x ∷ xs) y h k = (h.0, all_then P xs y h.1 k)

other_text : (s t : List ℕ) → bytes_eq t s ≡ false → s ≢ t
other_text s t h e = grind (arith, nat_tests, bytes_eq-Decides)

NamesDiffer-then : (fs : List Function) (f : Function) → NamesDiffer fs → has_name f.name fs ≡ false →
    NamesDiffer (fs ++ f ∷ [])
NamesDiffer-then [] f h k = (tt, tt)
NamesDiffer-then (g ∷ fs) f h k =
    grind (arith, all_then (λ x. g.name ≢ x.name) fs f h.0, other_text, NamesDiffer-then fs f h.1)

AreValues-then : (k : Scalar) (ns : List ℤ) (xs : List Word) (n : ℤ) (w : Word) → AreValues k ns xs →
    value_of k w.text ≡ Some n → AreValues k (ns ++ n ∷ []) (xs ++ w ∷ [])
AreValues-then k [] [] n w h e = (e, tt)
AreValues-then k (m ∷ ns) (x ∷ xs) n w h e = (h.0, AreValues-then k ns xs n w h.1 e)
AreValues-then k _ _ n w h e = absurd h

more_room : (ns : List ℤ) (m : ℤ) → nat_lt (length ns) MOST_ELEMENTS ≡ true → length (ns ++ m ∷ []) ≤ MOST_ELEMENTS
more_room ns m h = rw (length-append ns (m ∷ [])) (grind (arith, nat_tests))

fault_stays : (t : List ℕ) (l : ℕ) (p : Parse) (x : Fault) → p.fault ≡ Some x → take t l p ≡ p
unfolding take
fault_stays t l p x h = rw h refl

pub faulty_run : (ws : List Word) (p : Parse) (x : Fault) → p.fault ≡ Some x → run p ws ≡ p
faulty_run [] p x h = no_run p
faulty_run (w ∷ ws) p x h = word_run p p p w ws (fault_stays w.text w.line p x h) (faulty_run ws p x h)

still_none : (o : Option Fault) (p : Parse) (ws : List Word) → p.fault ≡ o → (run p ws).fault ≡ None → o ≡ None
still_none o p ws h k = grind (arith, nat_tests, faulty_run)

taken : (p : Parse) (t : List ℕ) (l : ℕ) → p.fault ≡ None → take t l p ≡ at_place p.place t l p
unfolding take
taken p t l h = grind (arith, nat_tests)

AreFunctions-then : (fs : List Function) (f : Function) (u v : List Word) → AreFunctions fs u →
    IsFunction f v → AreFunctions (fs ++ f ∷ []) (u ++ v)
AreFunctions-then [] f u v h k = (v, [], ap (λ z. z ++ v) h ∙ sym (append-nil v), k, refl)
AreFunctions-then (g ∷ fs) f u v (a, b, e, h, t) k =
    (a, b ++ v, ap (λ z. z ++ v) e ∙ append_assoc a b v, h, AreFunctions-then fs f b v t k)

-- words that fill the first slots of an instruction: if further words fill the others, all of them do
abbrev Filled : List ℕ → List WordSlot → ItemParts → List Word → Type 0
Filled word slots q done = (after : ItemParts) (rest : List Word) → Fill slots q after rest →
    Fill (slots_of word) no_parts after (done ++ rest)

-- ---- the place that words lead to

-- the words of the second part of an IF that has no ELSE yet; after an ELSE there are none
abbrev IsRest : Bool → ℕ → Body → List Word → Type 0
IsRest false n second ws = IsElse (IsBody n second) second ws
IsRest true n second ws = ws ≡ []

-- words that close the open IFs, after a rest of the innermost part
abbrev Completes : List OpenIf → Body → List Closing → List Word → Type 0
Completes [] b cs ws = IsBody 0 b ws
Completes (i ∷ is) b cs ws =
    (u m : List Word) × (end : Word) × (v : List Word) × (ws ≡ u ++ (m ++ (end ∷ v))) ×
    IsBody (suc (length is)) b u × IsRest i.has_else (suc (length is)) (first_closing cs).second m ×
    IsHead head.Endif (first_closing cs).end end ×
    Completes is (first_closing cs).after (other_closings cs) v

-- however the open IFs are closed, the lines and the words are then those of a body
abbrev Closes : List OpenIf → List CodeLine → List Word → Type 0
Closes ifs code inner =
    (b : Body) (cs : List Closing) (ws : List Word) → Completes ifs b cs ws →
    (whole : Body) × (code ++ endings ifs b cs ≡ body_lines whole) × IsBody 0 whole (inner ++ ws)

-- an item before what closes the open IFs
one_more : (ifs : List OpenIf) (x : List Word) (b next : Body) (cs : List Closing) (ws : List Word) →
    ((z : List Word) → IsBody (length ifs) b z → IsBody (length ifs) next (x ++ z)) →
    Completes ifs b cs ws → Completes ifs next cs (x ++ ws)
one_more [] x b next cs ws f h = f ws h
one_more (i ∷ is) x b next cs ws f (u, m, end, v, e, hb, hm, he, hr) = grind (arith, nat_tests, append_assoc)

-- the words of whole functions, and of one that is open
pub record Within (o : Open) (ws : List Word) : Type 0 where
  pub before : List Word
  pub func : Word
  pub named : Word
  pub inner : List Word
  pub words_are : ws ≡ before ++ func ∷ named ∷ inner
  pub gram : Gram o.functions before
  pub room : length o.functions < MOST_FUNCTIONS
  pub is_func : IsHead head.Func o.line func
  pub is_name : named.text ≡ o.name
  pub good : IsName o.name
  pub new : has_name o.name o.functions ≡ false
  pub closes : Closes o.ifs o.code inner

-- an open function, and the words of an open instruction
pub record Begun (k : Keyword) (slots : List WordSlot) (q : ItemParts) (o : Open) (first : Word) (done : List Word)
    (ws : List Word) : Type 0 where
  pub front : List Word
  pub words_are : ws ≡ front ++ first ∷ done
  pub is_first : head_of first.text ≡ head.Start k
  pub filled : Filled first.text slots q done
  pub inside : Within o front

-- if b one word INT more means nothing
abbrev TakesInt : Bool → Open → List Word → Type 0
TakesInt b o ws = b ≡ true → (w : Word) → w.text ≡ codes "INT" → Within o (ws ++ w ∷ [])

-- the words ws lead to the state p
pub data Stands (p : Parse) (ws : List Word) : Type 0 where
  at_outside : (fs : List Function) (e : p ≡ between fs) (g : Gram fs ws) → Stands p ws
  at_name : (fs : List Function) (u : List Word) (func : Word) (e : p ≡ naming_at fs func.line)
      (f : ws ≡ u ++ func ∷ []) (h : head_of func.text ≡ head.Func) (g : Gram fs u)
      (r : length fs < MOST_FUNCTIONS) → Stands p ws
  at_inside : (b : Bool) (o : Open) (e : p ≡ within b o) (h : Within o ws) (m : TakesInt b o ws) → Stands p ws
  at_words : (k : Keyword) (s : WordSlot) (slots : List WordSlot) (q : ItemParts) (o : Open) (first : Word)
      (done : List Word) (e : p ≡ going k first.line (s ∷ slots) q o)
      (h : Begun k (s ∷ slots) q o first done ws) → Stands p ws
  at_elements : (k : Keyword) (slots : List WordSlot) (before : ItemParts) (ns : List ℤ) (o : Open)
      (first opened : Word) (done inner : List Word)
      (e : p ≡ in_elements k first.line opened.line slots (record before { numbers = ns }) o)
      (u : List Word) (f : ws ≡ u ++ opened ∷ inner) (h : Begun k (Values ∷ slots) before o first done u)
      (t : opened.text ≡ codes "(") (m : AreValues before.kind ns inner) (le : length ns ≤ MOST_ELEMENTS) →
      Stands p ws

stands_at : (p q : Parse) (ws : List Word) → p ≡ q → Stands q ws → Stands p ws
stands_at p q ws e h = subst (λ z. Stands z ws) (sym e) h

no_int : (o : Open) (ws : List Word) → TakesInt false o ws
no_int o ws h = cc

-- ---- the words of an instruction

-- the same after words that come before, and after lines that these are
pass_on : {lines ends : List CodeLine} (inner v ws : List Word) → lines ≡ ends →
    ((whole : Body) × (ends ≡ body_lines whole) × IsBody 0 whole (inner ++ (v ++ ws))) →
    (whole : Body) × (lines ≡ body_lines whole) × IsBody 0 whole ((inner ++ v) ++ ws)
pass_on inner v ws e (whole, f, g) = (whole, e ∙ f, subst (IsBody 0 whole) (sym (append_assoc inner v ws)) g)

item_closes : (ifs : List OpenIf) (code : List CodeLine) (inner v : List Word) (i : Item) (l : ℕ) →
    Closes ifs code inner → IsInstruction i l v → Closes ifs (code ++ instruction_line i l ∷ []) (inner ++ v)
item_closes ifs code inner v i l h k = λ b cs ws c.
    pass_on inner v ws (item_endings ifs code i l b cs)
    (h (Do i l b) cs (v ++ ws) (one_more ifs v b (Do i l b) cs ws (λ z t. (v, z, refl, k, t)) c))

if_closes : (ifs : List OpenIf) (code : List CodeLine) (inner : List Word) (w : Word) → Closes ifs code inner →
    head_of w.text ≡ head.If → length ifs < MOST_OPEN_IFS →
    Closes (open_if w.line false ∷ ifs) (code ++ line_of code_item.If w.line ∷ []) (inner ++ w ∷ [])
if_closes ifs code inner w h k lt = λ b cs ws (u, m, end, v, e, hb, hm, he, hr).
    let c : Closing = first_closing cs in
    let next : Body = Choice w.line b c.second c.end c.after in
    let more = one_more ifs (w ∷ (u ++ (m ++ end ∷ []))) c.after next (other_closings cs) v
    (λ z t. (w, end, u, m, z, simp append_assoc, lt, (k, refl), he, hb, hm, t)) hr in
    pass_on inner (w ∷ []) ws (if_endings ifs code w.line b cs)
    (h next (other_closings cs) (w ∷ ws) (rw e (simp append_assoc at more)))

else_closes : (is : List OpenIf) (code : List CodeLine) (inner : List Word) (l : ℕ) (w : Word) →
    Closes (open_if l false ∷ is) code inner → head_of w.text ≡ head.Else →
    Closes (open_if l true ∷ is) (code ++ line_of code_item.Else l ∷ []) (inner ++ w ∷ [])
else_closes is code inner l w h k = λ b cs ws (u, m, end, v, e, hb, hm, he, hr).
    let c : Closing = closing b (first_closing cs).end (first_closing cs).after in
    let all = ap (λ z. w ∷ z) (e ∙ ap (λ z. u ++ (z ++ (end ∷ v))) hm) in
    pass_on inner (w ∷ []) ws (else_endings is code l b cs)
    (h End (c ∷ other_closings cs) (w ∷ ws) ([], w ∷ u, end, v, all, refl, inr (w, u, refl, k, hb), he, hr))

endif_closes : (is : List OpenIf) (code : List CodeLine) (inner : List Word) (l : ℕ) (w : Word) →
    Closes (open_if l true ∷ is) code inner → head_of w.text ≡ head.Endif →
    Closes is (code ++ line_of code_item.Endif w.line ∷ []) (inner ++ w ∷ [])
endif_closes is code inner l w h k = λ b cs ws t.
    pass_on inner (w ∷ []) ws (endif_endings is code l w.line b cs)
    (h End (closing End w.line b ∷ cs) (w ∷ ws) ([], [], w, ws, refl, refl, refl, (k, refl), t))

alone_closes : (is : List OpenIf) (code : List CodeLine) (inner : List Word) (l : ℕ) (w : Word) →
    Closes (open_if l false ∷ is) code inner → head_of w.text ≡ head.Endif →
    Closes is ((code ++ line_of code_item.Else l ∷ []) ++ line_of code_item.Endif w.line ∷ []) (inner ++ w ∷ [])
alone_closes is code inner l w h k = λ b cs ws t.
    pass_on inner (w ∷ []) ws (alone_endings is code l w.line b cs)
    (h End (closing End w.line b ∷ cs) (w ∷ ws) ([], [], w, ws, refl, refl, inl (refl, refl), (k, refl), t))

-- more words of the function that is open
grown : {o : Open} {code : List CodeLine} {ifs : List OpenIf} {ws : List Word} (v : List Word) (h : Within o ws) →
    Closes ifs code (h.inner ++ v) → Within (opened o.functions o.name o.line code ifs) (ws ++ v)
grown v h k = grind (arith, nat_tests, append_assoc)

within_more : {o : Open} {ws : List Word} (i : Item) (l : ℕ) (v : List Word) → Within o ws → IsInstruction i l v →
    Within (with_item o i l) (ws ++ v)
unfolding with_item
within_more {o} i l v h k = grown v h (item_closes o.ifs o.code h.inner v i l h.closes k)

whole_instruction : {k : Keyword} {q : ItemParts} {o : Open} {first : Word} {done ws : List Word} (last : List Word) →
    Begun k [] q o first done ws → MayBeInt (takes_int k) last →
    Within (with_item o (instruction_of k q) first.line) (ws ++ last)
whole_instruction {k} {q} {first = first} {done = done} last h m =
    let filled = h.filled q [] (refl, refl) in
    rw (h.words_are, append_assoc) (within_more (instruction_of k q) first.line (first ∷ (done ++ last)) h.inside
    (k, first, done, last, q, refl, (h.is_first, refl), refl, rw append-nil at filled, m))

going_stands : (slots : List WordSlot) {k : Keyword} {q : ItemParts} {o : Open} {first : Word} {done ws : List Word} →
    Begun k slots q o first done ws → Stands (going k first.line slots q o) ws
unfolding going
going_stands [] {k} {q} {o} {first} h =
    at_inside (takes_int k) (with_item o (instruction_of k q) first.line) refl
    (rw append-nil at (whole_instruction [] h (inl refl)))
    (λ t w e. whole_instruction (w ∷ []) h (inr (t, w, refl, e)))
going_stands (s ∷ slots) {k} {q} {o} {first} {done} h = at_words k s slots q o first done refl h

begun_more : {k : Keyword} {s : WordSlot} {slots : List WordSlot} {before next : ItemParts} {o : Open} {first : Word}
    {done ws : List Word} (u : List Word) → Begun k (s ∷ slots) before o first done ws → FillOne s before next u →
    Begun k slots next o first (done ++ u) (ws ++ u)
begun_more {next = next} {first = first} {done = done} u h i = grind (arith, nat_tests, append_assoc)

-- ---- one word more

from_state : {p c : Parse} {ws : List Word} (w : Word) → p ≡ c → c.fault ≡ None →
    (take w.text w.line p).fault ≡ None →
    ((at_place c.place w.text w.line c).fault ≡ None → Stands (at_place c.place w.text w.line c) ws) →
    Stands (take w.text w.line p) ws
from_state {c = c} w e n h f =
    let same = ap (take w.text w.line) e ∙ taken c w.text w.line n in
    stands_at _ _ _ same (f (sym (ap (λ (x : Parse). x.fault) same) ∙ h))

func_step : (b : Bool) {fs : List Function} {ws : List Word} (w : Word) → Gram fs ws → head_of w.text ≡ head.Func →
    nat_lt (length fs) MOST_FUNCTIONS ≡ b →
    let q = cond b (naming_at fs w.line) (with_fault TooLarge w.line (between fs)) in
    q.fault ≡ None → Stands q (ws ++ w ∷ [])
func_step true {fs} {ws} w g t e n = at_name fs ws w refl refl t g (grind (arith, nat_tests))
func_step false w g t e n = some_is_none _ n

outside_step : (h : Head) {fs : List Function} {ws : List Word} (w : Word) → Gram fs ws → head_of w.text ≡ h →
    (outside h w.line (between fs)).fault ≡ None → Stands (outside h w.line (between fs)) (ws ++ w ∷ [])
unfolding between naming_at
outside_step head.Func {fs} w g t n = func_step (nat_lt (length fs) MOST_FUNCTIONS) w g t refl n
outside_step _ w g t n = some_is_none _ n

naming_step : {fs : List Function} {u ws : List Word} (func w : Word) → ws ≡ u ++ func ∷ [] →
    head_of func.text ≡ head.Func → Gram fs u → length fs < MOST_FUNCTIONS →
    (after_name w.text w.line (naming_at fs func.line)).fault ≡ None →
    Stands (after_name w.text w.line (naming_at fs func.line)) (ws ++ w ∷ [])
unfolding naming_at within
naming_step {fs} {u} {ws} func w e k g r n =
    let o = opened fs w.text func.line [] [] in
    let same : after_name w.text w.line (naming_at fs func.line) ≡ within false o = grind (arith, nat_tests) in
    let good : IsName w.text = grind (arith, nat_tests, or_parts, ltb-false) in
    let new : has_name w.text fs ≡ false = grind arith in
    stands_at _ _ _ same (at_inside false o refl (record {
      before = u;
      func = func;
      named = w;
      inner = [];
      words_are = rw e (append_assoc u (func ∷ []) (w ∷ []));
      gram = g;
      room = r;
      is_func = (k, refl);
      is_name = refl;
      good = good;
      new = new;
      closes = λ b cs v k. (b, refl, k);
    }) (no_int o (ws ++ w ∷ [])))

-- the words that close something, after these lines of a function
module _ (fs : List Function) (name : List ℕ) (line : ℕ) (code : List CodeLine) (ws : List Word)
    (w : Word) where
  abbrev Here : List OpenIf → Type 0
  Here ifs = Within (opened fs name line code ifs) ws

  abbrev Leads : Head → Bool → List OpenIf → Type 0
  Leads h b ifs =
      let q = inside h (slots_of w.text) w.line (within b (opened fs name line code ifs)) in
      q.fault ≡ None → Stands q (ws ++ w ∷ [])

  return_step : Here [] → head_of w.text ≡ head.Return →
      Stands (between (fs ++ closed_at (opened fs name line code []) w.line ∷ [])) (ws ++ w ∷ [])
  unfolding closed_at
  return_step h t =
      let v = h.func ∷ h.named ∷ (h.inner ++ w ∷ []) in
      let f = closed_at (opened fs name line code []) w.line in
      let all = ap (λ z. z ++ w ∷ []) h.words_are ∙ append_assoc h.before (h.func ∷ h.named ∷ h.inner) (w ∷ []) in
      let (whole, e, g) = h.closes End [] [] refl in
      let same = ap tree_of (sym (append-nil code) ∙ e) ∙ tree_of-body_lines whole in
      let closed : IsBody 0 (tree_of code) h.inner = rw same (rw (append-nil h.inner) at g) in
      at_outside (fs ++ f ∷ []) refl (record {
        spelled =
            rw all (AreFunctions-then fs f h.before v h.gram.spelled
            (h.func, h.named, w, h.inner, refl, h.is_func, h.is_name, h.good, closed, (t, refl)));
        differ = NamesDiffer-then fs f h.gram.differ h.new;
        few = omega (arith, length-append fs (f ∷ []), h.room);
      })

  end_step : (ifs : List OpenIf) (b : Bool) → Here ifs → head_of w.text ≡ head.Return → Leads head.Return b ifs
  unfolding within between closed_at
  end_step [] b h t n = return_step h t
  end_step (i ∷ is) b h t n = some_is_none _ n

  else_step : (c b : Bool) (l : ℕ) (is : List OpenIf) → Here (open_if l c ∷ is) → head_of w.text ≡ head.Else →
      Leads head.Else b (open_if l c ∷ is)
  unfolding within
  else_step true b l is h t n = some_is_none _ n
  else_step false b l is h t n =
      let o = opened fs name line (code ++ line_of code_item.Else l ∷ []) (open_if l true ∷ is) in
      at_inside false o refl (grown (w ∷ []) h (else_closes is code h.inner l w h.closes t)) (no_int o (ws ++ w ∷ []))

  elses_step : (ifs : List OpenIf) (b : Bool) → Here ifs → head_of w.text ≡ head.Else → Leads head.Else b ifs
  unfolding within
  elses_step [] b h t n = some_is_none _ n
  elses_step (i ∷ is) b h t n = else_step i.has_else b i.line is h t n

  endif_step : (c b : Bool) (l : ℕ) (is : List OpenIf) → Here (open_if l c ∷ is) → head_of w.text ≡ head.Endif →
      Leads head.Endif b (open_if l c ∷ is)
  unfolding within
  endif_step true b l is h t n =
      let o = opened fs name line (code ++ line_of code_item.Endif w.line ∷ []) is in
      at_inside false o refl (grown (w ∷ []) h (endif_closes is code h.inner l w h.closes t))
      (no_int o (ws ++ w ∷ []))
  endif_step false b l is h t n =
      let last = (code ++ line_of code_item.Else l ∷ []) ++ line_of code_item.Endif w.line ∷ [] in
      let o = opened fs name line last is in
      at_inside false o refl (grown (w ∷ []) h (alone_closes is code h.inner l w h.closes t))
      (no_int o (ws ++ w ∷ []))

  endifs_step : (ifs : List OpenIf) (b : Bool) → Here ifs → head_of w.text ≡ head.Endif → Leads head.Endif b ifs
  unfolding within
  endifs_step [] b h t n = some_is_none _ n
  endifs_step (i ∷ is) b h t n = endif_step i.has_else b i.line is h t n

-- at the place of an item
module _ {o : Open} {ws : List Word} (h : Within o ws) (w : Word) where
  if_step : (c b : Bool) → head_of w.text ≡ head.If → nat_lt (length o.ifs) MOST_OPEN_IFS ≡ c →
      let q = cond c (within false (if_at o w.line)) (with_fault TooLarge w.line (within b o)) in
      q.fault ≡ None → Stands q (ws ++ w ∷ [])
  unfolding if_at
  if_step true b t lt n =
      at_inside false (if_at o w.line) refl
      (grown (w ∷ []) h (if_closes o.ifs o.code h.inner w h.closes t (grind (arith, nat_tests))))
      (no_int (if_at o w.line) (ws ++ w ∷ []))
  if_step false b t lt n = some_is_none _ n

  inside_step : (x : Head) (b : Bool) → head_of w.text ≡ x →
      let q = inside x (slots_of w.text) w.line (within b o) in q.fault ≡ None → Stands q (ws ++ w ∷ [])
  unfolding within if_at
  inside_step head.Return b t n = end_step o.functions o.name o.line o.code ws w o.ifs b h t n
  inside_step head.If b t n = if_step (nat_lt (length o.ifs) MOST_OPEN_IFS) b t refl n
  inside_step head.Else b t n = elses_step o.functions o.name o.line o.code ws w o.ifs b h t n
  inside_step head.Endif b t n = endifs_step o.functions o.name o.line o.code ws w o.ifs b h t n
  inside_step (head.Start k) b t n =
      stands_at _ _ _ (after_slot-going k w.line (slots_of w.text) (item_place b) [] no_parts o)
      (going_stands (slots_of w.text) {first = w} {done = []}
      (record { front = ws; words_are = refl; is_first = t; filled = λ after rest g. g; inside = h }))
  inside_step _ b t n = some_is_none _ n

  int_step : (c : Bool) → TakesInt true o ws → bytes_eq w.text (codes "INT") ≡ c →
      let q = cond c (within false o) (inside (head_of w.text) (slots_of w.text) w.line (within true o)) in
      q.fault ≡ None → Stands q (ws ++ w ∷ [])
  int_step true m e n =
      at_inside false o refl (m refl w ((bytes_eq-Decides w.text (codes "INT")).0 e)) (no_int o (ws ++ w ∷ []))
  int_step false m e n = inside_step (head_of w.text) true refl n

  item_step : (b : Bool) → TakesInt b o ws →
      let q = at_place (item_place b) w.text w.line (within b o) in q.fault ≡ None → Stands q (ws ++ w ∷ [])
  unfolding within
  item_step true m n = int_step (bytes_eq w.text (codes "INT")) m refl n
  item_step false m n = inside_step (head_of w.text) false refl n

-- in an instruction
module _ {k : Keyword} {s : WordSlot} {slots : List WordSlot} {q : ItemParts} {o : Open} {first : Word}
    {done ws : List Word} (h : Begun k (s ∷ slots) q o first done ws) (w : Word) where
  settled_step : (v : Result ItemParts CodeFault) → word_in s w.text q ≡ v →
      let p = after_part v k first.line w.line (going k first.line (s ∷ slots) q o) in
      p.fault ≡ None → Stands p (ws ++ w ∷ [])
  unfolding going within
  settled_step (Err x) e n = some_is_none _ n
  settled_step (Ok r) e n =
      stands_at _ _ _ (after_slot-going k first.line slots (Words k s first.line) slots r o)
      (going_stands slots (begun_more (w ∷ []) h (inl (w, refl, given_fits s w.text q r e))))

  slot_step : (b : Bool) → begins_list s w.text ≡ b →
      let p = cond b (in_elements k first.line w.line slots (record q { numbers = [] }) o)
      (after_part (word_in s w.text q) k first.line w.line (going k first.line (s ∷ slots) q o)) in
      p.fault ≡ None → Stands p (ws ++ w ∷ [])
  slot_step true e n =
      let (same, opened) = list_begins s w.text e in
      at_elements k slots q [] o first w done [] refl ws refl (rw same at h) opened tt (lit≤ tt)
  slot_step false e n = settled_step (word_in s w.text q) refl n

  in_slot_step :
      let p = in_slot s k first.line w.text w.line (going k first.line (s ∷ slots) q o) in
      p.fault ≡ None → Stands p (ws ++ w ∷ [])
  unfolding going within in_elements
  in_slot_step n = slot_step (begins_list s w.text) refl n

-- the words of an open list, with one more
pub record Listed (k : Keyword) (slots : List WordSlot) (before : ItemParts) (ns : List ℤ) (o : Open)
    (first opened : Word) (done inner ws : List Word) : Type 0 where
  pub front : List Word
  pub words_are : ws ≡ front ++ opened ∷ inner
  pub begun : Begun k (Values ∷ slots) before o first done front
  pub is_opened : opened.text ≡ codes "("
  pub numbers : AreValues before.kind ns inner
  pub few : length ns ≤ MOST_ELEMENTS

abbrev elements : Keyword → List WordSlot → ItemParts → List ℤ → Open → Word → Word → Parse
elements k slots before ns o first opened =
    in_elements k first.line opened.line slots (record before { numbers = ns }) o

module _ {k : Keyword} {slots : List WordSlot} {before : ItemParts} {ns : List ℤ} {o : Open} {first opened : Word}
    {done inner ws : List Word} (h : Listed k slots before ns o first opened done inner ws) (w : Word) where
  all_words : ws ++ w ∷ [] ≡ h.front ++ opened ∷ (inner ++ w ∷ [])
  all_words = rw h.words_are (append_assoc h.front (opened ∷ inner) (w ∷ []))

  room_step : (b : Bool) (m : ℤ) → value_of before.kind w.text ≡ Some m → nat_lt (length ns) MOST_ELEMENTS ≡ b →
      let q = cond b (elements k slots before (ns ++ m ∷ []) o first opened)
      (with_fault TooLarge w.line (elements k slots before ns o first opened)) in
      q.fault ≡ None → Stands q (ws ++ w ∷ [])
  room_step false m e lt n = some_is_none _ n
  room_step true m e lt n =
      at_elements k slots before (ns ++ m ∷ []) o first opened done (inner ++ w ∷ []) refl h.front all_words h.begun
      h.is_opened (AreValues-then before.kind ns inner m w h.numbers e) (more_room ns m lt)

  element_step : (v : Option ℤ) → value_of before.kind w.text ≡ v →
      let q = one_element v w.text w.line (elements k slots before ns o first opened) in
      q.fault ≡ None → Stands q (ws ++ w ∷ [])
  unfolding in_elements within
  element_step None e n = some_is_none _ n
  element_step (Some m) e n = room_step (nat_lt (length ns) MOST_ELEMENTS) m e refl n

  list_step : (b : Bool) → bytes_eq w.text (codes ")") ≡ b →
      let q = cond b (going k first.line slots (record before { numbers = ns }) o)
      (one_element (value_of before.kind w.text) w.text w.line (elements k slots before ns o first opened)) in
      q.fault ≡ None → Stands q (ws ++ w ∷ [])
  list_step true e n =
      let closed = (bytes_eq-Decides w.text (codes ")")).0 e in
      rw all_words (going_stands slots (begun_more (opened ∷ (inner ++ w ∷ [])) h.begun
      (inr (refl, (opened, w, inner, ns, refl, h.is_opened, closed, h.few, h.numbers, refl)))))
  list_step false e n = element_step (value_of before.kind w.text) refl n

  in_list_step :
      let q = in_list k first.line w.text w.line (elements k slots before ns o first opened) in
      q.fault ≡ None → Stands q (ws ++ w ∷ [])
  unfolding in_elements within
  in_list_step n =
      let r : ItemParts = record before { numbers = ns } in
      let same = after_slot-going k first.line slots (Elements k first.line opened.line) slots r o in
      let step = list_step (bytes_eq w.text (codes ")")) refl in
      rw same (step (rw same at n))

-- one word more, if it makes no fault
step_sound : (p : Parse) (ws : List Word) (w : Word) → Stands p ws → (take w.text w.line p).fault ≡ None →
    Stands (take w.text w.line p) (ws ++ w ∷ [])
unfolding between naming_at within going in_elements
step_sound p ws w (at_outside fs e g) f = from_state w e refl f (λ n. outside_step (head_of w.text) w g refl n)
step_sound p ws w (at_name fs u func e k t g r) f = from_state w e refl f (λ n. naming_step func w k t g r n)
step_sound p ws w (at_inside b o e h m) f = from_state w e refl f (λ n. item_step h w b m n)
step_sound p ws w (at_words k s slots q o first done e h) f = from_state w e refl f (λ n. in_slot_step h w n)
step_sound p ws w (at_elements k slots before ns o first opened done inner e u c h t m le) f =
    from_state w e refl f (λ n. in_list_step {ns = ns}
    (record { front = u; words_are = c; begun = h; is_opened = t; numbers = m; few = le }) w n)

pub run_sound : (more : List Word) (p : Parse) (ws : List Word) → Stands p ws → (run p more).fault ≡ None →
    Stands (run p more) (ws ++ more)
unfolding run
run_sound [] p ws h k = rw (append-nil ws) h
run_sound (w ∷ more) p ws h k =
    let next = step_sound p ws w h (still_none _ (take w.text w.line p) more refl k) in
    rw append_assoc at (run_sound more (take w.text w.line p) (ws ++ w ∷ []) next k)

pub at_start : Stands start []
unfolding between
at_start = at_outside [] refl (record { spelled = refl; differ = tt; few = lit≤ tt })
