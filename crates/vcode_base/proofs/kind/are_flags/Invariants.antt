use Rattle.std.proofs.Common.{◌≡◌, take}
use Rattle.std.specs.List.{list_all}
use Rattle.vcode_base.proofs.KindTests.{is_flag}
use Rattle.vcode_base.proofs.kind.are_flags.Given as goal

abbrev pub invariant-loop-word : goal.invariant-loop-word
invariant-loop-word l = l.all ≡ list_all is_flag (take l.word-index l.words)
