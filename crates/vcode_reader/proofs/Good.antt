-- What can be completed to a program, by a name that no function has, and the first word that can't.
use Rattle.std.proofs.Common.{arith, ◌≡◌, ℕ, ℤ, Bool, true, false, inl, List, [], ◌∷◌, ◌++◌, Option, Some, None, refl}
use Rattle.std.proofs.Common.{ap, ◌∙◌, sym, codes, append_assoc, lit≤, ◌+◌, ◌/◌, ◌%◌, ◌≤◌, length, cond}
use Rattle.std.proofs.lemmas.Bool.Decides.{nat_tests}
use Rattle.std.specs.Prelude.{pos, nat_lt}
use Rattle.vcode_base.specs.declared.kind.Scalar.{Scalar}
use Rattle.vcode_base.specs.declared.kind.Scalar.TheVariants as scalar
use Rattle.vcode_reader.specs.declared.head.Head.TheVariants as head
use Rattle.vcode_reader.specs.declared.keyword.Keyword.{Keyword}
use Rattle.vcode_reader.specs.declared.keyword.WordSlot.{WordSlot}
use Rattle.vcode_reader.specs.declared.keyword.WordSlot.TheVariants.{Int, Kind, Values, Count, Callee}
use Rattle.vcode_reader.specs.declared.place.Place.TheVariants.{Outside}
use Rattle.vcode_reader.specs.declared.place.OpenIf.{OpenIf}
use Rattle.vcode_reader.specs.Drafts.{open_if}
use Rattle.vcode_reader.specs.First.{IsGood, FirstFault, run}
use Rattle.vcode_reader.specs.Gram.{Fits, Gram, IsName}
use Rattle.vcode_reader.specs.Heads.{head_of, rows}
use Rattle.vcode_reader.specs.Keywords.{ItemParts, instruction_of, takes_int}
use Rattle.vcode_reader.specs.Numbers.{number_of, truth_of, value_of}
use Rattle.vcode_reader.specs.Parsing.{Parse, start, take, has_name}
use Rattle.vcode_reader.specs.Refusals.{Fault}
use Rattle.vcode_reader.specs.Scan.{Word}
use Rattle.vcode_reader.specs.Trees.{CodeLine, Function}
use Rattle.vcode_reader.proofs.Runs.{run-append, no_run, word_run, Open, with_item, between, naming_at, within, going}
use Rattle.vcode_reader.proofs.Runs.{in_elements, take_word, take_close, take_name, take_return, take_endif}
use Rattle.vcode_reader.proofs.Runs.{take_endif_alone, opened, gram_run}
use Rattle.vcode_reader.proofs.Sound.{Stands, at_outside, at_name, at_inside, at_words, at_elements, run_sound}
use Rattle.vcode_reader.proofs.Sound.{at_start, faulty_run, some_none}
use Rattle.std.specs.Str.{bytes_eq}
use Rattle.std.proofs.lemmas.Slice.Eq.{bytes_eq-Decides}

-- ---- a name that no function has

-- the numbers but k
skip : ℕ → ℕ → ℕ
skip k i = cond (nat_lt i k) i (i + 1)

skip_is_other : (k i : ℕ) → skip k i ≡ k → ⊥
unfolding skip
skip_is_other k i h = grind (arith, nat_tests)

skip_is_one : (k i j : ℕ) → skip k i ≡ skip k j → i ≡ j
unfolding skip
skip_is_one k i j h = grind (arith, nat_tests)

skip_is_next : (k i : ℕ) → skip k i ≤ i + 1
unfolding skip
skip_is_next k i = grind (arith, nat_tests)

-- of more names than there are functions, one is new
pub fresh : (fs : List Function) (f : ℕ → List ℕ) → ((i j : ℕ) → f i ≡ f j → i ≡ j) →
    (k : ℕ) × (k ≤ length fs) × (has_name (f k) fs ≡ false)
fresh [] f one = (0, omega arith, refl)
fresh (g ∷ fs) f one =
    let (k, le, new) = fresh fs f one in
    let (j, less, other) = fresh fs (λ i. f (skip k i)) (λ i j h. skip_is_one k i j (one _ _ h)) in
    by (bytes_eq (f k) g.name) k le new refl j less other
  where
    by : (b : Bool) (k : ℕ) → k ≤ length fs → has_name (f k) fs ≡ false → bytes_eq (f k) g.name ≡ b → (j : ℕ) →
        j ≤ length fs → has_name (f (skip k j)) fs ≡ false →
        (k : ℕ) × (k ≤ length (g ∷ fs)) × (has_name (f k) (g ∷ fs) ≡ false)
    by false k le new e j less other = (k, omega arith, rw (e, new) refl)
    by true k le new e j less other =
        let far = skip_is_next k j in
        (skip k j, omega arith, grind (arith, bytes_eq-Decides, skip_is_other k j, one (skip k j) k))

candidate : ℕ → List ℕ
candidate k = (65 + k / 32) ∷ (65 + k % 32) ∷ []

candidate_is_one : (i j : ℕ) → candidate i ≡ candidate j → i ≡ j
unfolding candidate
candidate_is_one i j h = grind (arith, nat_tests)

candidate_is_name : (k : ℕ) → IsName (candidate k)
unfolding candidate
candidate_is_name k = grind (arith, nat_tests)

pub new_name_for : (fs : List Function) → (t : List ℕ) × IsName t × (has_name t fs ≡ false)
new_name_for fs = let found = fresh fs candidate candidate_is_one in
    (candidate found.0, candidate_is_name found.0, found.2)

-- ---- what can be completed to a program, and the first word that can't

word : List ℕ → Word
word t = record { text = t; line = 0 }

return_head : head_of (codes "RET") ≡ head.Return
unfolding head_of rows
return_head = refl

endif_head : head_of (codes "ENDIF") ≡ head.Endif
unfolding head_of rows
endif_head = refl

-- a value of each kind
value : (k : Scalar) → (t : List ℕ) × (n : ℤ) × (value_of k t ≡ Some n)
unfolding number_of truth_of
value scalar.Int = (codes "0", pos 0, refl)
value scalar.Bool = (codes "T", pos 1, refl)

zero_number : number_of (codes "0") ≡ Some (pos 0)
unfolding number_of
zero_number = refl

-- a word for each slot
fitting : (s : WordSlot) (q : ItemParts) → (t : List ℕ) × (r : ItemParts) × Fits s t q r
fitting Int q = (codes "INT", _, (refl, refl))
fitting Kind q = (codes "INT", _, inl (refl, refl))
fitting Values q = let (t, n, h) = value q.kind in (t, _, (n, h, refl))
fitting (Count which) q = (codes "0", _, (0, (zero_number, lit≤ tt), refl))
fitting Callee q = (codes "f", _, (record { bare = refl; good = refl; short = lit≤ tt }, refl))

pub run-last : (ws : List Word) (w : Word) (p : Parse) → run p (ws ++ w ∷ []) ≡ take w.text w.line (run p ws)
unfolding run
run-last ws w p = grind (arith, run-append)

-- some words lead from p to the end of a function
Ends : Parse → Type 0
Ends p = (more : List Word) × (fs : List Function) × (run p more ≡ between fs)

after_word : (t : List ℕ) (p q : Parse) → take t 0 p ≡ q → Ends q → Ends p
unfolding Ends word
after_word t p q e (more, fs, r) = (word t ∷ more, fs, word_run p q _ (word t) more e r)

at_end : (fs : List Function) → Ends (between fs)
unfolding Ends
at_end fs = ([], fs, no_run _)

endif_ends : (c : Bool) (b : Bool) (l : ℕ) (is : List OpenIf) (fs : List Function) (name : List ℕ) (line : ℕ)
    (code : List CodeLine) →
    ((more : List CodeLine) → Ends (within false (opened fs name line more is))) →
    Ends (within b (opened fs name line code (open_if l c ∷ is)))
unfolding word
endif_ends true b l is fs name line code h =
    after_word _ _ _ (take_endif b (word (codes "ENDIF")) fs name line code l is endif_head) (h _)
endif_ends false b l is fs name line code h =
    after_word _ _ _ (take_endif_alone b (word (codes "ENDIF")) fs name line code l is endif_head) (h _)

ifs_end : (ifs : List OpenIf) (b : Bool) (fs : List Function) (name : List ℕ) (line : ℕ) (code : List CodeLine) →
    Ends (within b (opened fs name line code ifs))
unfolding word
ifs_end [] b fs name line code =
    after_word (codes "RET") _ _ (take_return b (word (codes "RET")) fs name line code return_head) (at_end _)
ifs_end (i ∷ is) b fs name line code =
    endif_ends i.has_else b i.line is fs name line code (λ more. ifs_end is false fs name line more)

inside_ends : (b : Bool) (o : Open) → Ends (within b o)
inside_ends b o = ifs_end o.ifs b o.functions o.name o.line o.code

going_ends : (slots : List WordSlot) (k : Keyword) (begun : ℕ) (q : ItemParts) (o : Open)
    → Ends (going k begun slots q o)
unfolding going
going_ends [] k begun q o = inside_ends (takes_int k) (with_item o (instruction_of k q) begun)
going_ends (s ∷ slots) k begun q o =
    let (t, r, h) = fitting s q in
    after_word t _ _ (take_word s t q r k begun 0 slots o h) (going_ends slots k begun r o)

ends : (p : Parse) (ws : List Word) → Stands p ws → Ends p
ends p ws (at_outside fs e g) = rw e (at_end fs)
ends p ws (at_name fs u func e f h g r) =
    let (t, name, new) = new_name_for fs in
    rw e (after_word t _ _ (take_name t func.line 0 fs name new) (inside_ends _ _))
ends p ws (at_inside b o e h m) = rw e (inside_ends b o)
ends p ws (at_words k s slots q o first done e h) = rw e (going_ends (s ∷ slots) k first.line q o)
ends p ws (at_elements k slots before ns o first opened done inner e u f h t m le) =
    rw e (after_word _ _ _ (take_close k first.line opened.line 0 slots _ o) (going_ends slots k first.line _ o))

outside_gram : (p : Parse) (ws : List Word) → Stands p ws → p.place ≡ Outside →
    (fs : List Function) × (p ≡ between fs) × Gram fs ws
unfolding naming_at within going in_elements
outside_gram p ws stands h = grind (arith, nat_tests)

-- the present words can be completed
pub stands_good : (p : Parse) (ws : List Word) → Stands p ws → IsGood ws
unfolding Ends between
stands_good p ws st =
    let (more, fs, r) = ends p ws st in
    let fine = ap (λ (q : Parse). q.fault) r in
    let found = outside_gram _ _ (run_sound more p ws st fine) (ap (λ (q : Parse). q.place) r) in
    (more, found.0, found.2)

-- what has a fault can't be
faulty_not_good : (ws : List Word) (x : Fault) → (run start ws).fault ≡ Some x → IsGood ws → ⊥
unfolding between
faulty_not_good ws x h good = grind (arith, nat_tests, some_none, faulty_run, run-append, gram_run)

-- the words so far, if they have no fault
pub run_stands : (ws : List Word) → (run start ws).fault ≡ None → Stands (run start ws) ws
run_stands ws h = run_sound ws start [] at_start h

pub run_gram : (ws : List Word) → (run start ws).fault ≡ None → (run start ws).place ≡ Outside →
    (fs : List Function) × (run start ws ≡ between fs) × Gram fs ws
run_gram ws h k = outside_gram (run start ws) ws (run_stands ws h) k

-- the word w makes the fault
faulty_word : (before ws : List Word) (w : Word) (fault : Fault) → (run start before).fault ≡ None →
    (take w.text w.line (run start before)).fault ≡ Some fault → FirstFault (before ++ w ∷ ws) fault
faulty_word before ws w fault h k = record {
  before = before;
  word = w;
  after = ws;
  words_are = refl;
  good = stands_good _ before (run_stands before h);
  not_good = faulty_not_good (before ++ w ∷ []) fault (rw run-last k);
  refusal = k;
}

-- if the words have a fault, one of them is the first that has one
pub faulty : (ws before : List Word) (fault : Fault) → (run start before).fault ≡ None →
    (run (run start before) ws).fault ≡ Some fault → FirstFault (before ++ ws) fault
unfolding run
faulty [] before fault h k = grind arith
faulty (w ∷ ws) before fault h k =
    by (take w.text w.line (run start before)).fault refl (faulty ws (before ++ w ∷ []) fault)
  where
    by : (o : Option Fault) → (take w.text w.line (run start before)).fault ≡ o →
        ((run start (before ++ w ∷ [])).fault ≡ None → (run (run start (before ++ w ∷ [])) ws).fault ≡ Some fault →
        FirstFault ((before ++ w ∷ []) ++ ws) fault) → FirstFault (before ++ w ∷ ws) fault
    by (Some x) e more =
        faulty_word before ws w fault h
        (ap (λ (q : Parse). q.fault) (sym (faulty_run ws (take w.text w.line (run start before)) x e)) ∙ k)
    by None e more =
        rw (← append_assoc before (w ∷ []) ws) (more (grind (arith, run-last)) (grind (arith, run-last)))
