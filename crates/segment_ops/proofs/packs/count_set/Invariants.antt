use Rattle.std.proofs.Common.{◌≡◌, ◌≤◌, take, count_by}
use Rattle.vcode_base.specs.Elements.{is_set}
use Rattle.segment_ops.proofs.packs.count_set.Given as goal

abbrev pub invariant-loop-flag : goal.invariant-loop-flag
invariant-loop-flag l = record {
  counted : l.sum ≡ count_by is_set (take l.flag-index l.flags);
  at_most_all : l.sum ≤ l.flag-index;
}
