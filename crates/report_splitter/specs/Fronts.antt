-- The lines of an entry after what begins its first, and the line after them.
use Rattle.std.specs.Prelude.{◌≡◌, ◌≢◌, ◌<◌, ℕ, ◌+◌, List, ◌∷◌, ◌++◌, All, codes, drop, length, slice_index}
use Rattle.memchr.specs.Find.{OccursAt}

-- these lines end with an LF, and none after the first begins with this head, which is a part of one line
pub record IsTail (tail head : List ℕ) : Type 0 where
  pub one_line : All (λ byte. byte ≢ 10) head
  pub lines : List ℕ
  pub last_feed : tail ≡ lines ++ codes "\n"
  pub no_next : (at : ℕ) → OccursAt tail (10 ∷ head) at → ⊥

-- a text has an LF
abbrev pub HasFeed : List ℕ → Type 0
HasFeed text = (at : ℕ) × (at < length text) × (slice_index text at ≡ 10)

-- a line after the first begins with this head, and it or a later line has its LF
pub record HasLine (head text : List ℕ) : Type 0 where
  pub at : ℕ
  pub begins : OccursAt text (10 ∷ head) at
  pub feed : HasFeed (drop (at + 1) text)

-- a text begins with this front
abbrev pub Begins : List ℕ → List ℕ → Type 0
Begins front text = (rest : List ℕ) × (text ≡ front ++ rest)

-- a text is these two, around the first of this byte
pub record IsSplitAt (byte : ℕ) (text front rest : List ℕ) : Type 0 where
  pub before : All (λ other. other ≢ byte) front
  pub parts : text ≡ front ++ (byte ∷ rest)
