use Rattle.std.proofs.Common.{◌≡◌, ◌+◌, ◌<◌, ◌^◌, drop, take}
use Rattle.vcode_base.specs.Bytes.{digit_count, digits_from}
use Rattle.vcode_base.proofs.bytes.number_at_front.Given as goal

abbrev pub invariant-loop-place : goal.invariant-loop-place
invariant-loop-place l = record {
  value : digits_from 0 (take (digit_count l.text) l.text)
      ≡ digits_from l.value (take (digit_count (drop l.place l.text)) (drop l.place l.text));
  small : l.value < 2 ^ 64;
  count : digit_count l.text ≡ l.place + digit_count (drop l.place l.text);
}
