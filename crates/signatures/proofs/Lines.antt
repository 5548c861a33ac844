-- What a text gives byte by byte is what its lines give.
use Rattle.std.proofs.Common.{◌≡◌, ◌∙◌, ℕ, ◌+◌, cond, refl, arith, ap, List, [], ◌∷◌, ◌++◌}
use Rattle.std.proofs.Common.{Option, Some, None, Result, Err}
use Rattle.std.proofs.lemmas.Grind.{common_steps}
use Rattle.std.specs.List.{onto_first}
use Rattle.vcode_base.specs.Lines.{is_line_feed, line_feeds}
use Rattle.signatures.specs.Faults.{Fault}
use Rattle.signatures.specs.Lines.{lines}
use Rattle.signatures.specs.Reading.{lines_reading, reading}
use Rattle.signatures.specs.Scan.{Scan, beginning, outcome, scan_after_line, scan_after_byte, scan_after_bytes}
use Rattle.signatures.specs.Signatures.{Signature}

-- ---- the numbers of lines

pub line_number : (s : Scan) → (scan_after_line s).number ≡ s.number
unfolding scan_after_line
line_number s = grind arith

pub byte_number : (s : Scan) (b : ℕ) → (scan_after_byte s b).number ≡ s.number + cond (is_line_feed b) 1 0
unfolding scan_after_byte
byte_number s b = grind (arith, line_number)

pub bytes_number : (bs : List ℕ) (s : Scan) → (scan_after_bytes s bs).number ≡ s.number + line_feeds bs
unfolding scan_after_bytes
bytes_number [] s = grind arith
bytes_number (b ∷ bs) s = grind (arith, bytes_number bs (scan_after_byte s b), byte_number)

pub bytes_append : (xs ys : List ℕ) (s : Scan)
    → scan_after_bytes s (xs ++ ys) ≡ scan_after_bytes (scan_after_bytes s xs) ys
unfolding scan_after_bytes
bytes_append [] ys s = refl
bytes_append (b ∷ xs) ys s = bytes_append xs ys (scan_after_byte s b)

-- ---- the lines of a text

-- the bytes of an open line before the lines of the rest
join : List ℕ → List (List ℕ) → List (List ℕ)
join [] ls = ls
join (b ∷ begun) ls = onto_first b (join begun ls)

join_more : (begun : List ℕ) (b : ℕ) (ls : List (List ℕ)) → join (begun ++ b ∷ []) ls ≡ join begun (onto_first b ls)
unfolding join
join_more [] b ls = refl
join_more (c ∷ begun) b ls = ap (onto_first c) (join_more begun b ls)

join_end : (begun : List ℕ) (ls : List (List ℕ)) → join begun ([] ∷ ls) ≡ begun ∷ ls
unfolding join
join_end [] ls = refl
join_end (c ∷ begun) ls = ap (onto_first c) (join_end begun ls)

-- what lines give after these signatures, or after a fault
from : Option Fault → List Signature → ℕ → List (List ℕ) → Result (List Signature) Fault
from None known number ls = lines_reading known number ls
from (Some fault) known number ls = Err fault

-- what the lines of the rest give after a scan
abbrev from_scan : Scan → List (List ℕ) → Result (List Signature) Fault
from_scan s ls = from s.fault s.known s.number (join s.line ls)

last_line : (s : Scan) → outcome s ≡ from_scan s ([] ∷ [])
unfolding from outcome scan_after_line lines_reading
last_line s = grind (arith, join_end)

one_byte : (s : Scan) (b : ℕ) (ls : List (List ℕ))
    → from_scan (scan_after_byte s b) ls ≡ from_scan s (cond (is_line_feed b) ([] ∷ ls) (onto_first b ls))
unfolding from scan_after_byte scan_after_line lines_reading join
one_byte s b ls = grind (arith, join_end, join_more)

all_bytes : (bs : List ℕ) (s : Scan) → outcome (scan_after_bytes s bs) ≡ from_scan s (lines bs)
unfolding scan_after_bytes
all_bytes [] s = last_line s
all_bytes (b ∷ bs) s = all_bytes bs (scan_after_byte s b) ∙ one_byte s b (lines bs)

pub comes_to_reading : (first : ℕ) (bytes : List ℕ)
    → outcome (scan_after_bytes (beginning first) bytes) ≡ reading first bytes
unfolding reading from join
comes_to_reading first bytes = all_bytes bytes (beginning first)

pub ruleset scan_steps = (common_steps, byte_number, bytes_number, bytes_append)
