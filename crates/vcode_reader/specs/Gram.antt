-- The grammar of the code: which words a program has.
use Rattle.std.specs.Prelude.{◌≡◌, ◌≢◌, ◌⊎◌, ◌≤◌, ◌<◌, ℕ, suc, ℤ, pos, Bool, true, false, List, [], ◌∷◌, ◌++◌, Some}
use Rattle.std.specs.Prelude.{length, codes}
use Rattle.std.specs.List.{AllByRecursion}
use Rattle.vcode_base.specs.declared.kind.Scalar.{Scalar}
use Rattle.vcode_base.specs.declared.kind.Scalar.TheVariants as scalar
use Rattle.vcode_base.specs.declared.limits.TheConstants.{LONGEST_NAME, MOST_FUNCTIONS, MOST_OPEN_IFS, MOST_ELEMENTS}
use Rattle.vcode_base.specs.declared.limits.TheConstants.{MOST_MOVED}
use Rattle.vcode_reader.specs.declared.head.Head.{Head}
use Rattle.vcode_reader.specs.declared.head.Head.TheVariants.{Func, Return, If, Else, Endif, Start}
use Rattle.vcode_reader.specs.declared.keyword.Keyword.{Keyword}
use Rattle.vcode_reader.specs.declared.keyword.WordSlot.{WordSlot}
use Rattle.vcode_reader.specs.declared.keyword.WordSlot.TheVariants.{Int, Kind, Values, Count, Callee}
use Rattle.vcode_reader.specs.Heads.{head_of, slots_of}
use Rattle.vcode_reader.specs.Keywords.{ItemParts, no_parts, takes_int, instruction_of}
use Rattle.vcode_reader.specs.Numbers.{number_of, value_of}
use Rattle.vcode_reader.specs.Parsing.{counted_parts, is_parenthesis, is_bad}
use Rattle.vcode_reader.specs.Scan.{Word}
use Rattle.vcode_reader.specs.Trees.{Item, Body, End, Do, Choice, Function}

-- a word other than a parenthesis, and not too long
pub record IsName (t : List ℕ) : Type 0 where
  pub bare : is_parenthesis t ≡ false
  pub good : is_bad t ≡ false
  pub short : length t ≤ LONGEST_NAME

-- the word is a number that a motion of the stack may have for a count
abbrev pub IsCount : List ℕ → ℕ → Type 0
IsCount t n = (number_of t ≡ Some (pos n)) × (n ≤ MOST_MOVED)

-- one word that fills a slot; what the words before it gave, and what they gave with it
abbrev pub Fits : WordSlot → List ℕ → ItemParts → ItemParts → Type 0
Fits Int t before after = (t ≡ codes "INT") × (after ≡ record before { kind = scalar.Int })
Fits Kind t before after =
    ((t ≡ codes "INT") × (after ≡ record before { kind = scalar.Int }))
    ⊎ ((t ≡ codes "BOOL") × (after ≡ record before { kind = scalar.Bool }))
Fits Values t before after = (n : ℤ) × (value_of before.kind t ≡ Some n) ×
    (after ≡ record before { numbers = n ∷ [] })
Fits (Count entries) t before after = (n : ℕ) × IsCount t n × (after ≡ counted_parts entries n before)
Fits Callee t before after = IsName t × (after ≡ record before { callee = t })

-- the words are these values of a kind
abbrev pub AreValues : Scalar → List ℤ → List Word → Type 0
AreValues k [] [] = Unit {0}
AreValues k [] (w ∷ ws) = ⊥
AreValues k (n ∷ ns) [] = ⊥
AreValues k (n ∷ ns) (w ∷ ws) = (value_of k w.text ≡ Some n) × AreValues k ns ws

-- this number of values in parentheses
abbrev pub AreListed : ItemParts → ItemParts → List Word → Type 0
AreListed before after ws =
    (opened closed : Word) × (inner : List Word) × (ns : List ℤ) × (ws ≡ opened ∷ (inner ++ closed ∷ [])) ×
    (opened.text ≡ codes "(") × (closed.text ≡ codes ")") × (length ns ≤ MOST_ELEMENTS) ×
    AreValues before.kind ns inner × (after ≡ record before { numbers = ns })

-- words that fill one slot
abbrev pub FillOne : WordSlot → ItemParts → ItemParts → List Word → Type 0
FillOne s before after ws =
    ((w : Word) × (ws ≡ w ∷ []) × Fits s w.text before after) ⊎ ((s ≡ Values) × AreListed before after ws)

-- words that fill the slots
abbrev pub Fill : List WordSlot → ItemParts → ItemParts → List Word → Type 0
Fill [] before after ws = (before ≡ after) × (ws ≡ [])
Fill (s ∷ slots) before after ws = (next : ItemParts) × (u rest : List Word) × (ws ≡ u ++ rest) ×
    FillOne s before next u × Fill slots next after rest

-- nothing, or if it is allowed one word INT
abbrev pub MayBeInt : Bool → List Word → Type 0
MayBeInt may ws = (ws ≡ []) ⊎ ((may ≡ true) × (w : Word) × (ws ≡ w ∷ []) × (w.text ≡ codes "INT"))

-- a word that begins this, on this line
abbrev pub IsHead : Head → ℕ → Word → Type 0
IsHead h l w = (head_of w.text ≡ h) × (w.line ≡ l)

-- the first word of an instruction, words that fill its slots, and those that mean nothing
abbrev pub IsInstruction : Item → ℕ → List Word → Type 0
IsInstruction i l ws =
    (k : Keyword) × (first : Word) × (rest last : List Word) × (parts : ItemParts) × (ws ≡ first ∷ (rest ++ last)) ×
    IsHead (Start k) l first × (i ≡ instruction_of k parts) ×
    Fill (slots_of first.text) no_parts parts rest × MayBeInt (takes_int k) last

-- no words, or ELSE and a part
abbrev pub IsElse : (List Word → Type 0) → Body → List Word → Type 0
IsElse is_part second ws =
    ((ws ≡ []) × (second ≡ End))
    ⊎ ((w : Word) × (u : List Word) × (ws ≡ w ∷ u) × (head_of w.text ≡ Else) × is_part u)

-- the items of a body inside this number of open IFs
abbrev pub IsBody : ℕ → Body → List Word → Type 0
IsBody n End ws = ws ≡ []
IsBody n (Do i l b) ws = (u v : List Word) × (ws ≡ u ++ v) × IsInstruction i l u × IsBody n b v
IsBody n (Choice l first second e b) ws =
    (begun end : Word) × (u m v : List Word) × (ws ≡ begun ∷ (u ++ (m ++ (end ∷ v)))) × (n < MOST_OPEN_IFS) ×
    IsHead If l begun × IsHead Endif e end × IsBody (suc n) first u × IsElse (IsBody (suc n) second) second m ×
    IsBody n b v

abbrev pub IsFunction : Function → List Word → Type 0
IsFunction f ws =
    (func name ret : Word) × (u : List Word) × (ws ≡ func ∷ name ∷ (u ++ ret ∷ [])) × IsHead Func f.line func ×
    (name.text ≡ f.name) × IsName f.name × IsBody 0 f.body u × IsHead Return f.ret ret

-- functions one after another
abbrev pub AreFunctions : List Function → List Word → Type 0
AreFunctions [] ws = ws ≡ []
AreFunctions (f ∷ fs) ws = (u v : List Word) × (ws ≡ u ++ v) × IsFunction f u × AreFunctions fs v

-- no two functions have one name
abbrev pub NamesDiffer : List Function → Type 0
NamesDiffer [] = Unit {0}
NamesDiffer (f ∷ fs) = AllByRecursion (λ g. f.name ≢ g.name) fs × NamesDiffer fs

-- these words are these functions
pub record Gram (fs : List Function) (ws : List Word) : Type 0 where
  pub spelled : AreFunctions fs ws
  pub differ : NamesDiffer fs
  pub few : length fs ≤ MOST_FUNCTIONS
