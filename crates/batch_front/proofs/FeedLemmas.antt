-- What was read of a reader and fed.
use Rattle.std.proofs.Common.{◌≡◌, ℕ, ◌+◌, ◌-◌, ◌≤◌, List, ◌++◌, length, take}
use Rattle.std.proofs.Common.{arith}
use Rattle.std.specs.declared.option.Option.{Option}
use Rattle.std.specs.Io.KnownBytes.{Consumes, Keeps, IsAtEnd}
use Rattle.std.proofs.lemmas.Grind.{common_steps}
use Rattle.std.proofs.lemmas.List.{length-append, length-take-le}
use Rattle.vcode_base.specs.declared.limits.TheConstants.{MOST_BATCH_BYTES}
use Rattle.batch_reader.specs.Feeds.{FeedState, HasCome}
use Rattle.batch_front.specs.Inputs.{ReadsFirstBytes, ReadsNoFurther}
use Rattle.batch_front.specs.Reads.{AreFirstBytes}
use Rattle.batch_front.proofs.Bytes.{front_at_stop, front_when_full, reads_more}
use Rattle.batch_front.proofs.Bytes.{rest_at_stop, rest_is_some, rest_when_full, some_rest}

-- some bytes were read and fed, and this number is left of those that may be read
pub record HasFed (old new : Option (List ℕ)) (feed : FeedState) (left : ℕ) : Type 0 where
  pub bytes : List ℕ
  pub consumed : Consumes old new bytes
  pub come : HasCome feed bytes
  pub room : length bytes + left ≡ MOST_BATCH_BYTES + 1

front_of : (n : ℕ) (xs ys : List ℕ) → n ≤ length xs → take n (xs ++ ys) ≡ take n xs
front_of n xs ys h = grind (arith, common_steps)

-- one piece more: the first bytes of a buffer, after which others lie
pub fed_more : (a b c : Option (List ℕ)) (old new : FeedState) (left n : ℕ) (buffer behind : List ℕ)
    → HasFed a b old left
    → Consumes b c (take n buffer) → n ≤ length buffer → n ≤ left
    → ((before : List ℕ) → HasCome old before → HasCome new (before ++ take n (buffer ++ behind)))
    → HasFed a c new (left - n)
fed_more a b c old new left n buffer behind h p within l f =
    let piece = take n buffer in
    record {
      bytes = h.bytes ++ piece;
      consumed = reads_more a b c h.bytes piece h.consumed p;
      come = rw (front_of n buffer behind within) at (f h.bytes h.come);
      room = omega (arith, h.room, length-append h.bytes piece, length-take-le n buffer within);
    }

-- a piece that was read and not fed
pub read_no_further : (a b c : Option (List ℕ)) (old : FeedState) (left n : ℕ) (buffer : List ℕ) → HasFed a b old left
    → Consumes b c (take n buffer) → n ≤ length buffer → n ≤ left → ReadsNoFurther a c
read_no_further a b c old left n buffer h p within l =
    let piece = take n buffer in
    some_rest (MOST_BATCH_BYTES + 1) a c (h.bytes ++ piece) (reads_more a b c h.bytes piece h.consumed p)
    (omega (arith, h.room, length-append h.bytes piece, length-take-le n buffer within))

-- ---- what is known of the input in the end

-- the bytes that were fed are the first of the input, and no more was read
pub record IsFed (old new : Option (List ℕ)) (feed : FeedState) : Type 0 where
  pub first : (bytes : List ℕ) × HasCome feed bytes × AreFirstBytes old bytes
  pub to_the_end : ReadsFirstBytes old new
  pub no_further : ReadsNoFurther old new

-- a reader that has no more
pub fed_to_end : (a b c : Option (List ℕ)) (feed : FeedState) (left k : ℕ) (cs : List ℕ) → HasFed a b feed left
    → Consumes b c (take k cs) → k ≡ 0 → IsAtEnd c → IsFed a c feed
fed_to_end a b c feed left k cs h p none end =
    let short : length h.bytes ≤ MOST_BATCH_BYTES + 1 = omega (arith, h.room) in
    let to_the_end = rest_at_stop _ k a b c h.bytes cs h.consumed p none end short in
    record {
      first = (h.bytes, h.come, front_at_stop _ k a b c h.bytes cs h.consumed p none end short);
      to_the_end = to_the_end;
      no_further = rest_is_some _ a c to_the_end;
    }

-- a reader that gave as many bytes as may be read
pub fed_to_limit : (a b : Option (List ℕ)) (feed : FeedState) (left : ℕ) → HasFed a b feed left → left ≡ 0
    → IsFed a b feed
fed_to_limit a b feed left h none =
    let full : length h.bytes ≡ MOST_BATCH_BYTES + 1 = omega (arith, h.room) in
    let to_the_end = rest_when_full _ a b h.bytes h.consumed full in
    record {
      first = (h.bytes, h.come, front_when_full _ a b h.bytes h.consumed full);
      to_the_end = to_the_end;
      no_further = rest_is_some _ a b to_the_end;
    }

-- a read that gave nothing
pub fed_no_further : (a b c : Option (List ℕ)) (feed : FeedState) (left : ℕ) → HasFed a b feed left → Keeps b c
    → ReadsNoFurther a c
fed_no_further a b c feed left h k =
    let kept : HasFed a c feed left = grind arith in
    some_rest (MOST_BATCH_BYTES + 1) a c kept.bytes kept.consumed (omega (arith, kept.room))
