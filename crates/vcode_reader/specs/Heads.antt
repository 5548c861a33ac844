-- The table of words: what each begins at the place of an item of a function or of a function, and what the words
-- after it must be.
use Rattle.std.specs.Prelude.{ℕ, Bool, ◌==◌, nat_lt, List, [], ◌∷◌, if◌then◌else◌, length, codes}
use Rattle.std.specs.Str.{bytes_eq}
use Rattle.vcode_base.specs.declared.op.Arith.TheVariants.{Add, Subtract, Multiply, Divide, Remainder, ShiftLeft}
use Rattle.vcode_base.specs.declared.op.Arith.TheVariants.{ShiftRight}
use Rattle.vcode_base.specs.declared.op.Comparison.TheVariants.{Less, LessOrEqual, Greater, GreaterOrEqual, Equal}
use Rattle.vcode_base.specs.declared.op.Comparison.TheVariants.{NotEqual}
use Rattle.vcode_base.specs.declared.op.Logic.TheVariants.{And, Or, Xor}
use Rattle.vcode_base.specs.declared.op.StackMove.TheVariants.{Copy, Pop, MoveToTop}
use Rattle.vcode_reader.specs.declared.head.Head.{Head}
use Rattle.vcode_reader.specs.declared.head.Head.TheVariants.{Func, Return, If, Else, Endif, Start, Other}
use Rattle.vcode_reader.specs.declared.keyword.Entries.TheVariants.{Lower, Upper}
use Rattle.vcode_reader.specs.declared.keyword.Folding.TheVariants as by
use Rattle.vcode_reader.specs.declared.keyword.Keyword.{Keyword}
use Rattle.vcode_reader.specs.declared.keyword.Keyword.TheVariants.{Const, Arith, Compare, Logic, Not, Select}
use Rattle.vcode_reader.specs.declared.keyword.Keyword.TheVariants.{IntToBool, BoolToInt, Scan, Reduce, Distribute}
use Rattle.vcode_reader.specs.declared.keyword.Keyword.TheVariants.{Index, Permute, BackPermute, DefaultPermute}
use Rattle.vcode_reader.specs.declared.keyword.Keyword.TheVariants.{Extract, Replace, Pack, MakeSegdes, Lengths, Move}
use Rattle.vcode_reader.specs.declared.keyword.Keyword.TheVariants.{Call}
use Rattle.vcode_reader.specs.declared.keyword.WordSlot.{WordSlot}
use Rattle.vcode_reader.specs.declared.keyword.WordSlot.TheVariants.{Int, Kind, Values, Count, Callee}
use Rattle.vcode_reader.specs.Keywords.{keyword_slots}

-- a word, what it begins, and what each word after it must be
pub record Row : Type 0 where
  pub word : List ℕ
  pub head : Head
  pub slots : List WordSlot

-- a word of the frame of functions and IFs
abbrev pub frame : List ℕ → Head → Row
frame word head = record { word = word; head = head; slots = [] }

-- the first word of an instruction
abbrev pub row : List ℕ → Keyword → List WordSlot → Row
row word keyword slots = record { word = word; head = Start keyword; slots = slots }

unfoldable pub rows : List Row
rows =
    frame (codes "FUNC") Func
    ∷ frame (codes "RET") Return
    ∷ frame (codes "IF") If
    ∷ frame (codes "ELSE") Else
    ∷ frame (codes "ENDIF") Endif
    ∷ row (codes "CONST") Const (Kind ∷ Values ∷ [])
    ∷ row (codes "+") (Arith Add) (Int ∷ [])
    ∷ row (codes "-") (Arith Subtract) (Int ∷ [])
    ∷ row (codes "*") (Arith Multiply) (Int ∷ [])
    ∷ row (codes "/") (Arith Divide) (Int ∷ [])
    ∷ row (codes "%") (Arith Remainder) (Int ∷ [])
    ∷ row (codes "LSHIFT") (Arith ShiftLeft) (Int ∷ [])
    ∷ row (codes "RSHIFT") (Arith ShiftRight) (Int ∷ [])
    ∷ row (codes "<") (Compare Less) (Int ∷ [])
    ∷ row (codes "<=") (Compare LessOrEqual) (Int ∷ [])
    ∷ row (codes ">") (Compare Greater) (Int ∷ [])
    ∷ row (codes ">=") (Compare GreaterOrEqual) (Int ∷ [])
    ∷ row (codes "=") (Compare Equal) (Int ∷ [])
    ∷ row (codes "!=") (Compare NotEqual) (Int ∷ [])
    ∷ row (codes "AND") (Logic And) (Kind ∷ [])
    ∷ row (codes "OR") (Logic Or) (Kind ∷ [])
    ∷ row (codes "XOR") (Logic Xor) (Kind ∷ [])
    ∷ row (codes "NOT") Not (Kind ∷ [])
    ∷ row (codes "SELECT") Select (Kind ∷ [])
    ∷ row (codes "I_TO_B") IntToBool []
    ∷ row (codes "B_TO_I") BoolToInt []
    ∷ row (codes "+_SCAN") (Scan by.Sum) (Int ∷ [])
    ∷ row (codes "*_SCAN") (Scan by.Product) (Int ∷ [])
    ∷ row (codes "MAX_SCAN") (Scan by.Max) (Int ∷ [])
    ∷ row (codes "MIN_SCAN") (Scan by.Min) (Int ∷ [])
    ∷ row (codes "AND_SCAN") (Scan (by.Logic And)) (Kind ∷ [])
    ∷ row (codes "OR_SCAN") (Scan (by.Logic Or)) (Kind ∷ [])
    ∷ row (codes "XOR_SCAN") (Scan (by.Logic Xor)) (Kind ∷ [])
    ∷ row (codes "+_REDUCE") (Reduce by.Sum) (Int ∷ [])
    ∷ row (codes "*_REDUCE") (Reduce by.Product) (Int ∷ [])
    ∷ row (codes "MAX_REDUCE") (Reduce by.Max) (Int ∷ [])
    ∷ row (codes "MIN_REDUCE") (Reduce by.Min) (Int ∷ [])
    ∷ row (codes "AND_REDUCE") (Reduce (by.Logic And)) (Kind ∷ [])
    ∷ row (codes "OR_REDUCE") (Reduce (by.Logic Or)) (Kind ∷ [])
    ∷ row (codes "XOR_REDUCE") (Reduce (by.Logic Xor)) (Kind ∷ [])
    ∷ row (codes "DIST") Distribute (Kind ∷ [])
    ∷ row (codes "INDEX") Index []
    ∷ row (codes "PERMUTE") Permute (Kind ∷ [])
    ∷ row (codes "BPERMUTE") BackPermute (Kind ∷ [])
    ∷ row (codes "DPERMUTE") DefaultPermute (Kind ∷ [])
    ∷ row (codes "EXTRACT") Extract (Kind ∷ [])
    ∷ row (codes "REPLACE") Replace (Kind ∷ [])
    ∷ row (codes "PACK") Pack (Kind ∷ [])
    ∷ row (codes "MAKE_SEGDES") MakeSegdes []
    ∷ row (codes "LENGTHS") Lengths []
    ∷ row (codes "COPY") (Move Copy) (Count Lower ∷ Count Upper ∷ [])
    ∷ row (codes "POP") (Move Pop) (Count Lower ∷ Count Upper ∷ [])
    ∷ row (codes "CPOP") (Move MoveToTop) (Count Lower ∷ Count Upper ∷ [])
    ∷ row (codes "CALL") Call (Callee ∷ [])
    ∷ []

-- what the first row of a word has in a column; if no row has the word, this
abbrev pub look_up : {A : Type 0} → (Row → A) → A → List Row → List ℕ → A
look_up column missing [] word = missing
look_up column missing (r ∷ rs) word = if bytes_eq word r.word then column r else look_up column missing rs word

-- what a word begins
unfoldable pub head_of : List ℕ → Head
head_of word = look_up (λ r. r.head) Other rows word

-- what each word after it must be
unfoldable pub slots_of : List ℕ → List WordSlot
slots_of word = look_up (λ r. r.slots) [] rows word

-- ---- the same, sought among the words of a length, and by what a word begins

-- the rows whose words have such a length
abbrev pub rows_with : (ℕ → Bool) → List Row → List Row
rows_with is_such [] = []
rows_with is_such (r ∷ rs) = if is_such (length r.word) then r ∷ rows_with is_such rs else rows_with is_such rs

-- what a word of this length begins, and what a longer one
unfoldable pub head_of_length : ℕ → List ℕ → Head
head_of_length n word = look_up (λ r. r.head) Other (rows_with (λ m. m == n) rows) word

unfoldable pub head_longer : ℕ → List ℕ → Head
head_longer n word = look_up (λ r. r.head) Other (rows_with (nat_lt n) rows) word

-- what each word after one that begins this must be
abbrev pub head_slots : Head → List WordSlot
head_slots (Start k) = keyword_slots k
head_slots _ = []
