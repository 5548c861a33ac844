use Rattle.std.proofs.Common.{◌∙◌, ◌/◌, ap, length, refl, arith}
use Rattle.job_profile.specs.declared.strip.TheConstants.{MOST_COLUMNS}
use Rattle.job_profile.specs.Columns.{highest}
use Rattle.job_profile.proofs.Strips.{folded, highest_halved, length_halved}
use Rattle.job_profile.proofs.strip.Strip.make_room.Goals as goal

pub returns-then-len-eq-MOST_COLUMNS-clause-strip : goal.returns-then-len-eq-MOST_COLUMNS-clause-strip
returns-then-len-eq-MOST_COLUMNS-clause-strip g c = λ of n s.
    rw (c.fold.ensures.columns, c.fold.ensures.each, c.fold.ensures.room, c.requires.room)
    (folded s (MOST_COLUMNS / 2) refl (omega (arith, c.if-len-eq-MOST_COLUMNS.true, c.len.ensures)) c.requires.room)

pub returns-then-len-eq-MOST_COLUMNS-clause-highest : goal.returns-then-len-eq-MOST_COLUMNS-clause-highest
returns-then-len-eq-MOST_COLUMNS-clause-highest g c =
    ap highest c.fold.ensures.columns ∙ highest_halved c.args.self.now.columns.items

pub returns-then-len-eq-MOST_COLUMNS-clause-few : goal.returns-then-len-eq-MOST_COLUMNS-clause-few
returns-then-len-eq-MOST_COLUMNS-clause-few g c =
    omega (
      arith,
      ap length c.fold.ensures.columns,
      length_halved c.args.self.now.columns.items (MOST_COLUMNS / 2)
          (omega (arith, c.if-len-eq-MOST_COLUMNS.true, c.len.ensures)),
    )
