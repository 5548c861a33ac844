use Rattle.std.proofs.Common.{◌∙◌, ◌/◌, arith}
use Rattle.job_profile.specs.declared.strip.TheConstants.{MOST_COLUMNS}
use Rattle.job_profile.proofs.Strips.{first_half}
use Rattle.job_profile.proofs.strip.Strip.fold.Goals as goal

pub returns-clause-columns : goal.returns-clause-columns
returns-clause-columns g c =
    c.truncate.ensures.items ∙ first_half _ _ (MOST_COLUMNS / 2) (omega arith) c.join_pairs.ensures.joined
