-- The lists that are kept for open IFs. Each open IF has the list with which it began: its lowest entries are those of
-- the list with which the next IF inside began, and for the innermost IF those of the stack.
use Rattle.std.specs.Prelude.{◌≤◌, ℕ, List, [], ◌∷◌, ◌++◌, length, take}
use Rattle.vcode_base.specs.declared.kind.Kind.{Kind}

-- how many of the lowest entries of another list the list shares, and its entries above them
pub record SharedList : Type 0 where
  pub shared : ℕ
  pub above : List Kind

-- the list's entries, the lowest of which are of these
abbrev pub whole_list : List Kind → SharedList → List Kind
whole_list ks list = take list.shared ks ++ list.above

-- the list with which an IF began, and the list that is kept for it, which shares entries with the first
pub record OpenIf : Type 0 where
  pub begin : SharedList
  pub kept : SharedList

-- the list with which an IF began
abbrev pub begin_list : List Kind → OpenIf → List Kind
begin_list ks o = whole_list ks o.begin

-- the list that is kept for it
abbrev pub kept_list : List Kind → OpenIf → List Kind
kept_list ks o = whole_list (begin_list ks o) o.kept

-- the lists that are kept for open IFs, the innermost first
abbrev pub kept_lists : List Kind → List OpenIf → List (List Kind)
kept_lists ks [] = []
kept_lists ks (o ∷ os) = kept_list ks o ∷ kept_lists (begin_list ks o) os

-- no list with which an IF began shares more entries than there are
abbrev pub AreShared : List Kind → List OpenIf → Type 0
AreShared ks [] = Unit {0}
AreShared ks (o ∷ os) = (o.begin.shared ≤ length ks) × AreShared (begin_list ks o) os

-- the list with which the first IF began, if there is one, shares at most `count` entries
abbrev pub SharesAtMost : ℕ → List OpenIf → Type 0
SharesAtMost count [] = Unit {0}
SharesAtMost count (o ∷ os) = o.begin.shared ≤ count
