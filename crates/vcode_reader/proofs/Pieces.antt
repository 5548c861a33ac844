-- How many lines a text has, and words that lie whole in a piece.
use Rattle.std.proofs.lemmas.List.{drop_all, append-nil, drop_more, drop-drop, length-drop}
use Rattle.std.proofs.Common.{◌≡◌, ◌∙◌, ℕ, suc, ◌+◌, ◌==◌, ◌<◌, ◌≤◌, Bool, true, false, List, [], ◌∷◌, ◌++◌, Some, None}
use Rattle.std.proofs.Common.{refl, arith, ap, length, take, drop, get_or, append_assoc, add-zero, sym}
use Rattle.std.specs.Prelude.{if◌then◌else◌, Option, codes, is_some}
use Rattle.std.proofs.lemmas.Bool.Decides.{nat_tests}
use Rattle.vcode_reader.specs.declared.class.Class.{Class}
use Rattle.vcode_reader.specs.declared.class.Class.TheVariants.{Plain, LineFeed}
use Rattle.vcode_reader.specs.Ahead.{HasWord}
use Rattle.vcode_reader.specs.Classes.{class_of, is_passed, is_plain, passed_length, plain_length}
use Rattle.vcode_reader.specs.Scan.{Scan, Emit, end_word, by_comment, scan_byte, scan_all, lone_word}
use Rattle.std.proofs.lemmas.Grind.{common_steps}
use Rattle.vcode_base.specs.Lines.{line_feeds}

-- ---- how many lines a text has

end_word-line : {P : Type 0} (emit : Emit P) (r : Scan P) → (end_word emit r).line ≡ r.line
unfolding end_word
end_word-line emit r = grind (arith, nat_tests)

scan_all_lines : {P : Type 0} (emit : Emit P) (r : Scan P) (b : ℕ) (bs : List ℕ) →
    (scan_byte emit r b).line + line_feeds bs ≡ r.line + line_feeds (b ∷ bs)
unfolding scan_byte lone_word class_of
scan_all_lines emit r b bs = grind (arith, nat_tests, end_word-line, add-zero)

pub next_room : {P : Type 0} (r : Scan P) (b m : ℕ) (rest all : List ℕ) → all ≡ b ∷ rest →
    r.line + line_feeds all < m → class_of b ≡ LineFeed → r.line + 1 < m
unfolding class_of
next_room r b m rest all e h f = grind (arith, nat_tests)

pub later_same : {P : Type 0} (emit : Emit P) (r n : Scan P) (b : ℕ) (rest all : List ℕ) → all ≡ b ∷ rest →
    n ≡ scan_byte emit r b → scan_all emit r all ≡ scan_all emit n rest
unfolding scan_all
later_same emit r n b rest all e f = ap (scan_all emit r) e ∙ sym (ap (λ x. scan_all emit x rest) f)

-- each byte of a text moves the line on if it is an LF
pub scan_all-line : {P : Type 0} (emit : Emit P) (bs : List ℕ) (r : Scan P) →
    (scan_all emit r bs).line ≡ r.line + line_feeds bs
unfolding scan_all
scan_all-line emit [] r = sym (add-zero r.line)
scan_all-line emit (b ∷ bs) r = scan_all-line emit bs (scan_byte emit r b) ∙ scan_all_lines emit r b bs

pub scan_all-append : {P : Type 0} (emit : Emit P) (xs ys : List ℕ) (r : Scan P) →
    scan_all emit r (xs ++ ys) ≡ scan_all emit (scan_all emit r xs) ys
unfolding scan_all
scan_all-append emit [] ys r = refl
scan_all-append emit (b ∷ xs) ys r = scan_all-append emit xs ys (scan_byte emit r b)

-- what is left of a text after some of it has as many lines as are to come
pub same_room : {P : Type 0} (emit : Emit P) (r n : Scan P) (m : ℕ) (all rest : List ℕ) →
    scan_all emit r all ≡ scan_all emit n rest → r.line + line_feeds all < m → n.line + line_feeds rest < m
same_room {P} emit r n m all rest e h = grind (arith, nat_tests, scan_all-line)

pub none_left : {P : Type 0} (emit : Emit P) (r : Scan P) (rest : List ℕ) → rest ≡ [] → scan_all emit r rest ≡ r
unfolding scan_all
none_left emit r rest e = rw e refl

-- ---- words that lie whole in a piece

-- most bytes of words lie in one range
pub plain_range : (b : ℕ) → 42 ≤ b → b ≤ 122 → is_plain (class_of b) ≡ true
unfolding class_of
plain_range b low high = grind (arith, nat_tests)

-- ---- one byte of a text

pub plain_at : (t : List ℕ) (i : ℕ) → i < length t → is_plain (class_of (get_or t i 0)) ≡ true →
    plain_length (drop i t) ≡ suc (plain_length (drop (i + 1) t))
plain_at t i lt h = ap plain_length (drop_more t i 0 lt) ∙ rw h refl

pub none_at : (t : List ℕ) (i : ℕ) → i < length t → is_plain (class_of (get_or t i 0)) ≡ false →
    plain_length (drop i t) ≡ 0
none_at t i lt h = ap plain_length (drop_more t i 0 lt) ∙ rw h refl

-- ---- what follows the plain bytes

-- the length of the plain bytes at the front of a text that begins with a byte of this class
abbrev front : Class → List ℕ → ℕ
front c bs = if is_plain c then suc (plain_length bs) else 0

within_by : (b : Bool) (n m : ℕ) → n ≤ m → (if b then suc n else 0) ≤ suc m
within_by true n m h = omega arith
within_by false n m h = omega arith

pub plain_within : (t : List ℕ) → plain_length t ≤ length t
plain_within [] = omega arith
plain_within (b ∷ bs) = within_by (is_plain (class_of b)) (plain_length bs) (length bs) (plain_within bs)

none_follows_by : (c : Class) (b : ℕ) (bs : List ℕ) → class_of b ≡ c → plain_length (drop (plain_length bs) bs) ≡ 0 →
    plain_length (drop (front c bs) (b ∷ bs)) ≡ 0
none_follows_by Plain b bs e h = h
none_follows_by _ b bs e h = ap (λ (c : Class). front c bs) e

none_follows : (t : List ℕ) → plain_length (drop (plain_length t) t) ≡ 0
none_follows [] = refl
none_follows (b ∷ bs) = none_follows_by (class_of b) b bs refl (none_follows bs)

-- ---- plain bytes join the open word

same_word : {P : Type 0} (emit : Emit P) (t : List ℕ) (s : Scan P) →
    scan_all emit s t ≡ scan_all emit (record s { word = s.word ++ [] }) t
same_word {P} emit t s = grind (arith, nat_tests, append-nil)

run_by : {P : Type 0} (emit : Emit P) (c : Class) (b : ℕ) (bs : List ℕ) (s : Scan P) → s.comment ≡ None →
    class_of b ≡ c →
    scan_all emit (record s { word = s.word ++ b ∷ [] }) bs
    ≡ scan_all emit (record s { word = (s.word ++ b ∷ []) ++ take (plain_length bs) bs })
    (drop (plain_length bs) bs) →
    scan_all emit s (b ∷ bs)
    ≡ scan_all emit (record s { word = s.word ++ take (front c bs) (b ∷ bs) })
    (drop (front c bs) (b ∷ bs))
unfolding scan_all scan_byte
run_by {P = P} emit c b bs s none e h = grind (arith, append_assoc, append-nil)

-- the plain bytes at the front of a text are bytes of the open word
pub plain_run : {P : Type 0} (emit : Emit P) (t : List ℕ) (s : Scan P) → s.comment ≡ None →
    scan_all emit s t
    ≡ scan_all emit (record s { word = s.word ++ take (plain_length t) t }) (drop (plain_length t) t)
plain_run emit [] s none = same_word emit [] s
plain_run emit (b ∷ bs) s none =
    run_by emit (class_of b) b bs s none refl (plain_run emit bs (record s { word = s.word ++ b ∷ [] }) none)

-- ---- a word ends before a byte that isn't plain

ends_by : {P : Type 0} (emit : Emit P) (c : Class) (b : ℕ) (t : List ℕ) (s : Scan P) → front c t ≡ 0 →
    by_comment emit None c b s ≡ by_comment emit None c b (end_word emit s)
unfolding end_word
ends_by emit c b t s h = grind (arith, nat_tests)

whole_by : {P : Type 0} (emit : Emit P) (s : Scan P) (w t : List ℕ) → s.comment ≡ None → s.word ≡ [] →
    1 ≤ length w → 1 ≤ length t → plain_length t ≡ 0 →
    scan_all emit (record s { word = w }) t ≡ scan_all emit (record s { found = emit w s.line s.found }) t
unfolding scan_all scan_byte end_word
whole_by emit s [] t none empty some more h = absurd (omega arith)
whole_by emit s (c ∷ w) [] none empty some more h = absurd (omega arith)
whole_by {P = P} emit s (c ∷ w) (b ∷ t) none empty some more h = grind (arith, nat_tests, ends_by)

-- plain bytes are a whole word if none is open and other bytes follow
pub whole_word : {P : Type 0} (emit : Emit P) (t plain rest : List ℕ) (s : Scan P) → s.comment ≡ None → s.word ≡ [] →
    plain ≡ take (plain_length t) t → rest ≡ drop (plain_length t) t → 1 ≤ length plain → 1 ≤ length rest →
    scan_all emit s t ≡ scan_all emit (record s { found = emit plain s.line s.found }) rest
whole_word {P} emit t plain rest s none empty front behind some more =
    grind (arith, nat_tests, plain_run, whole_by, none_follows)

-- ---- one byte between words, where no word is open

pub passes_blank : {P : Type 0} (emit : Emit P) (s : Scan P) (t rest : List ℕ) → s.comment ≡ None → s.word ≡ [] →
    1 ≤ length t → get_or t 0 0 ≡ 32 → rest ≡ drop 1 t → scan_all emit s t ≡ scan_all emit s rest
unfolding scan_all scan_byte end_word class_of
passes_blank emit s t rest none empty some h e = grind (arith, nat_tests, drop_more)

pub passes_feed : {P : Type 0} (emit : Emit P) (s : Scan P) (t rest : List ℕ) → s.comment ≡ None → s.word ≡ [] →
    1 ≤ length t → get_or t 0 0 ≡ 10 → rest ≡ drop 1 t →
    scan_all emit s t ≡ scan_all emit (record s { line = s.line + 1 }) rest
unfolding scan_all scan_byte end_word class_of
passes_feed emit s t rest none empty some h e = grind (arith, nat_tests, drop_more)

-- ---- whether there are bytes, or an open comment

pub is_none : (o : Option ℕ) → is_some o ≡ false → o ≡ None
is_none o h = grind (arith, nat_tests)

pub some_bytes : (t : List ℕ) → (length t == 0) ≡ false → 1 ≤ length t
some_bytes t h = grind (arith, nat_tests)

pub no_bytes : (t : List ℕ) → (length t == 0) ≡ true → t ≡ []
no_bytes t h = grind (arith, common_steps)

-- ---- a word after a blank

-- a byte that separates words is part of none
pub separates : (b : ℕ) → b ≤ 32 → is_plain (class_of b) ≡ false
unfolding class_of
separates b low = grind (arith, nat_tests)

pub digit_word : (t : List ℕ) → 3 ≤ length t → get_or t 0 0 ≡ 32 → 48 ≤ get_or t 1 0 → get_or t 1 0 ≤ 57 →
    get_or t 2 0 ≤ 32 → HasWord t (get_or t 1 0 ∷ [])
digit_word t long blank low high next = grind (arith, common_steps, plain_range, separates)

pub int_word : (t : List ℕ) → 5 ≤ length t → get_or t 0 0 ≡ 32 → get_or t 1 0 ≡ 73 → get_or t 2 0 ≡ 78 →
    get_or t 3 0 ≡ 84 → get_or t 4 0 ≤ 32 → HasWord t (codes "INT")
int_word text long blank i n t next = grind (arith, nat_tests, common_steps, plain_range, separates)

pub dropped : (n : ℕ) (t : List ℕ) → n < length t → 1 ≤ length (drop n t)
dropped n t more = omega (arith, length-drop n t)

-- a blank and the word after it are passed over
pub passes_word : {P : Type 0} (emit : Emit P) (s : Scan P) (t w rest : List ℕ) → s.comment ≡ None → s.word ≡ [] →
    HasWord t w → rest ≡ drop (suc (length w)) t →
    scan_all emit s t ≡ scan_all emit (record s { found = emit w s.line s.found }) rest
passes_word emit s t w rest none empty h e =
    let word = whole_word emit (drop 1 t) w rest s none empty (rw h.plain h.word) in
    grind (arith, passes_blank, dropped, drop-drop)

-- ---- bytes that change nothing in a comment

pub passed_at : (t : List ℕ) (i : ℕ) → i < length t → is_passed (class_of (get_or t i 0)) ≡ true →
    passed_length (drop i t) ≡ suc (passed_length (drop (i + 1) t))
passed_at t i lt h = ap passed_length (drop_more t i 0 lt) ∙ rw h refl

pub none_passed_at : (t : List ℕ) (i : ℕ) → i < length t → is_passed (class_of (get_or t i 0)) ≡ false →
    passed_length (drop i t) ≡ 0
none_passed_at t i lt h = ap passed_length (drop_more t i 0 lt) ∙ rw h refl

pub passed_within : (t : List ℕ) → passed_length t ≤ length t
passed_within [] = omega arith
passed_within (b ∷ bs) = within_by (is_passed (class_of b)) (passed_length bs) (length bs) (passed_within bs)

pub comment_passed : {P : Type 0} (emit : Emit P) (l : ℕ) (t : List ℕ) (s : Scan P) → s.comment ≡ Some l →
    scan_all emit s t ≡ scan_all emit s (drop (passed_length t) t)
unfolding scan_all scan_byte
comment_passed emit l [] s begun = refl
comment_passed emit l (b ∷ bs) s begun = grind (arith, nat_tests, comment_passed emit l bs s begun)

pub is_some_line : (o : Option ℕ) → is_some o ≡ true → (l : ℕ) × (o ≡ Some l)
is_some_line o h = grind (arith, nat_tests)

-- one blank or LF is passed over
pub ruleset separator_steps = (no_bytes, is_none, some_bytes, passes_blank, passes_feed)

-- how many bytes at the front are plain, or change nothing in a comment
pub ruleset plain_steps = (plain_at, none_at, drop_all)

pub ruleset passed_steps = (passed_at, none_passed_at, drop_all)

-- the front of a comment is passed over
pub ruleset comment_steps = (is_some_line, comment_passed, passed_within)
