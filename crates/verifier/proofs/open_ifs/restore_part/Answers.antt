use Rattle.std.proofs.Common.{arith}
use Rattle.verifier.proofs.Keeping.{end_tested, kept_tested}
use Rattle.verifier.proofs.open_ifs.restore_part.Goals as goal

pub returns-then-shared-clause-same : goal.returns-then-shared-clause-same
returns-then-shared-clause-same g c =
    (kept_tested c.args.kinds.now c.restore.new.kinds c.go_to.new.kinds c.args.innermost c.into_lists-begin.result
    c.shared.result c.in_ok-end.end c.is_end_of.result c.into_lists-begin.ensures c.requires.0 c.in_ok-restore.ensures
    c.shared.ensures c.in_ok-end.ensures c.in_ok-go_to.ensures.kinds
    (omega (arith, c.if-shared.true, c.shared-2.ensures, c.shared-3.ensures)) c.is_end_of.ensures).0

pub returns-then-shared-clause-kinds : goal.returns-then-shared-clause-kinds
returns-then-shared-clause-kinds g c =
    λ yes. (kept_tested c.args.kinds.now c.restore.new.kinds c.go_to.new.kinds c.args.innermost
    c.into_lists-begin.result c.shared.result c.in_ok-end.end c.is_end_of.result c.into_lists-begin.ensures c.requires.0
    c.in_ok-restore.ensures c.shared.ensures c.in_ok-end.ensures c.in_ok-go_to.ensures.kinds
    (omega (arith, c.if-shared.true, c.shared-2.ensures, c.shared-3.ensures)) c.is_end_of.ensures).1

pub returns-clause-same : goal.returns-clause-same
returns-clause-same g c =
    (end_tested c.args.kinds.now c.restore.new.kinds c.go_to-else-shared.new.kinds c.args.innermost
    c.into_lists-begin.result c.shared.result c.in_ok-end.end c.is_end_of-else-shared.result c.into_lists-begin.ensures
    c.requires.0 c.in_ok-restore.ensures c.shared.ensures c.in_ok-end.ensures c.in_ok-go_to-2.ensures.kinds
    (omega (arith, c.if-shared.false, c.shared-2.ensures, c.shared-3.ensures)) c.is_end_of-else-shared.ensures).0

pub returns-clause-kinds : goal.returns-clause-kinds
returns-clause-kinds g c =
    (end_tested c.args.kinds.now c.restore.new.kinds c.go_to-else-shared.new.kinds c.args.innermost
    c.into_lists-begin.result c.shared.result c.in_ok-end.end c.is_end_of-else-shared.result c.into_lists-begin.ensures
    c.requires.0 c.in_ok-restore.ensures c.shared.ensures c.in_ok-end.ensures c.in_ok-go_to-2.ensures.kinds
    (omega (arith, c.if-shared.false, c.shared-2.ensures, c.shared-3.ensures)) c.is_end_of-else-shared.ensures).1
