use Rattle.reservations.proofs.Sums.{held_within_granted}
use Rattle.reservations.proofs.laws.held_is_within_granted.Goals as goal

pub returns : goal.returns
returns c = held_within_granted
