-- The bodies of a program hold no RET and no instruction IF, and each list of a CONST is of its kind.
use Rattle.std.proofs.Common.{arith, ◌≡◌, ◌∙◌, ℕ, ℤ, suc, Bool, false, List, Some, [], ◌∷◌, Ok, ap, sym, length, ◌≤◌}
use Rattle.std.proofs.lemmas.Bool.Decides.{nat_tests}
use Rattle.vcode_base.specs.declared.limits.TheConstants.{MOST_FUNCTIONS}
use Rattle.std.proofs.lemmas.List.Elements.{All-nil, All-cons}
use Rattle.vcode_base.specs.declared.kind.Scalar.TheVariants as scalar
use Rattle.vcode_base.specs.Kinds.{IsFlag, HasKind, kind_of}
use Rattle.vcode_reader.specs.Gram.{AreValues, IsInstruction, IsElse, IsBody, AreFunctions}
use Rattle.vcode_reader.specs.Keywords.{ItemParts}
use Rattle.vcode_reader.specs.Numbers.{truth_of}
use Rattle.vcode_reader.specs.Parsing.{Parse}
use Rattle.vcode_reader.specs.Reading.{IsOfBytes, outcome, program_at, reading}
use Rattle.vcode_reader.specs.Scan.{Scan, Word}
use Rattle.vcode_reader.specs.Trees.{Item, Body, End, Do, Choice, Function, IsBodyInstruction, IsProperBody}
use Rattle.vcode_reader.specs.Trees.{HaveProperBodies}
use Rattle.vcode_reader.proofs.Answers.{every_text_is_read}
use Rattle.vcode_reader.proofs.Spelling.{slots_by_head}

-- ---- values

truth_flag : (t : List ℕ) (n : ℤ) → truth_of t ≡ Some n → IsFlag n
unfolding truth_of
truth_flag t n e = grind (arith, nat_tests)

flags : (ns : List ℤ) (ws : List Word) → AreValues scalar.Bool ns ws → HasKind (kind_of scalar.Bool) ns
flags [] ws h = All-nil IsFlag
flags (n ∷ ns) [] h = absurd h
flags (n ∷ ns) (w ∷ ws) h = All-cons IsFlag n ns (truth_flag w.text n h.0) (flags ns ws h.1)

-- ---- instructions

abbrev HasListKind : ItemParts → Type 0
HasListKind p = HasKind (kind_of p.kind) p.numbers

proper_instruction : (i : Item) (l : ℕ) (ws : List Word) → IsInstruction i l ws → IsBodyInstruction i
proper_instruction i l ws h = grind (arith, nat_tests, slots_by_head, All-cons, truth_flag, All-nil, flags)

-- ---- bodies

proper_else : (is_part : List Word → Type 0) (second : Body) (ws : List Word) →
    ((u : List Word) → is_part u → IsProperBody second) → IsElse is_part second ws → IsProperBody second
proper_else is_part second ws part h = grind (arith, nat_tests)

proper_body : (n : ℕ) (b : Body) (ws : List Word) → IsBody n b ws → IsProperBody b
proper_body n End ws h = tt
proper_body n (Do i l b) ws h = (proper_instruction i l h.0 h.3, proper_body n b h.1 h.4)
proper_body n (Choice l first second e b) ws h = (
  proper_body (suc n) first h.2 h.9,
  proper_else (IsBody (suc n) second) second h.3 (λ u part. proper_body (suc n) second u part) h.10,
  proper_body n b h.4 h.11,
)

proper_functions : (fs : List Function) (ws : List Word) → AreFunctions fs ws → HaveProperBodies fs
proper_functions [] ws h = All-nil (λ (f : Function). IsProperBody f.body)
proper_functions (f ∷ fs) ws h = grind (arith, nat_tests, All-cons, proper_body, proper_functions fs h.1 h.4)

-- the functions that bytes spell are no more than a program may have, and proper
pub of_outcome : (s : Scan Parse) (first size : ℕ) (failed : Bool) (fs : List Function) →
    IsOfBytes s first size failed → failed ≡ false → outcome s ≡ Ok fs →
    (length fs ≤ MOST_FUNCTIONS) × HaveProperBodies fs
unfolding reading
of_outcome s first size failed fs h going e =
    let bytes = h going in
    let same = ap (λ r. program_at first (outcome r)) (sym bytes.1) ∙ ap (program_at first) e in
    let read = rw same at (every_text_is_read first bytes.0) in
    (read.1.1.few, proper_functions fs _ read.1.1.spelled)
