-- What a call leaves.
use Rattle.std.specs.Prelude.{ℕ, ◌≤◌, nat_le, if◌then◌else◌, List, ◌++◌, length, drop, Ok}
use Rattle.vcode_base.specs.declared.limits.TheConstants.{MOST_WORDS}
use Rattle.batch_front.specs.declared.status.Status.{Status}
use Rattle.batch_front.specs.Exits.{exit_of}
use Rattle.vjobs_embed.specs.declared.TheConstants.{TOO_SMALL}

-- a region can have this number of words
abbrev pub IsRegion : ℕ → Type 0
IsRegion region = (1 ≤ region) × (region ≤ MOST_WORDS)

-- what a call answers, the length that it reports, and what the buffer holds
pub record Answer : Type 0 where
  pub status : ℕ
  pub needed : ℕ
  pub out : List ℕ

-- there is no report, and the buffer is as before
abbrev pub untouched : ℕ → List ℕ → Answer
untouched status out = record { status = status; needed = 0; out = out }

-- a report at the front of a buffer that has room for it
abbrev pub written : List ℕ → Status → List ℕ → Answer
written report status out = record {
  status = exit_of (Ok status);
  needed = length report;
  out = report ++ drop (length report) out;
}

-- a report that is longer than the buffer, which is as before
abbrev pub too_long : List ℕ → List ℕ → Answer
too_long report out = record { status = TOO_SMALL; needed = length report; out = out }

-- what is left of a buffer by a report of this status
abbrev pub delivered : List ℕ → Status → List ℕ → Answer
delivered report status out =
    if nat_le (length report) (length out) then written report status out else too_long report out
