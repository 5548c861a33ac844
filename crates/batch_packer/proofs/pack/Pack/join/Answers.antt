use Rattle.std.proofs.Common.{arith, length-append}
use Rattle.std.proofs.lemmas.Bool.Decides.{nat_tests}
use Rattle.batch_packer.proofs.Packs.{feeds_append, pack_joined, room_rule}
use Rattle.batch_packer.proofs.pack.Pack.join.Goals as goal

pub overflow_add-self : goal.overflow_add-self
overflow_add-self g c = grind (arith, nat_tests)

pub invariant_of-self-2 : goal.invariant_of-self-2
invariant_of-self-2 g c = grind (arith, nat_tests, length-append, feeds_append)

pub returns-clause-is_pack : goal.returns-clause-is_pack
returns-clause-is_pack g c files one is job text =
    pack_joined c.args.self.now _ c.args.file.now files one (room_rule c.args.self.now c.args.file.now c.requires)
    (grind arith) (grind arith) (grind arith) is job text
