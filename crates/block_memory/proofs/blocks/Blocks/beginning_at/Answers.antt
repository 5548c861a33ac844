-- The number at a place is that of the block that begins there, if one does.
use Rattle.std.proofs.Common.{arith, sym, ap, ◌∙◌, option_copied}
use Rattle.block_memory.proofs.BlocksLemmas.{none_begins, none_past, begins-span}
use Rattle.block_memory.proofs.blocks.Blocks.beginning_at.Goals as goal

pub returns-then-place-reached-clause-none : goal.returns-then-place-reached-clause-none
returns-then-place-reached-clause-none g c =
    none_past c.self.invariant c.self.view_is (omega (arith, c.self.inside.starts.ok.0))

pub returns-in_err-span-clause-none : goal.returns-in_err-span-clause-none
returns-in_err-span-clause-none g c =
    rw c.from_residual.ensures (none_begins c.self.invariant c.self.view_is c.index-number.result.now
    (omega (arith, c.self.inside.starts.ok.0)) c.index-number.ensures (λ s there here some. grind arith))

pub returns-then-span-front-clause-none : goal.returns-then-span-front-clause-none
returns-then-span-front-clause-none g c =
    none_begins c.self.invariant c.self.view_is c.index-number.result.now
    (omega (arith, c.self.inside.starts.ok.0)) c.index-number.ensures (λ s there here some. grind arith)

pub returns-then-span-eq0-clause-none : goal.returns-then-span-eq0-clause-none
returns-then-span-eq0-clause-none g c =
    none_begins c.self.invariant c.self.view_is c.index-number.result.now
    (omega (arith, c.self.inside.starts.ok.0)) c.index-number.ensures (λ s there here some. grind arith)

pub returns-clause-found : goal.returns-clause-found
returns-clause-found g c =
    begins-span c.self.invariant c.self.view_is c.index-number.result.now c.in_ok-span.span.now
    (sym c.find.ensures ∙ ap option_copied c.in_ok-span.was) (omega (arith, c.len-front.ensures)) (omega arith)
