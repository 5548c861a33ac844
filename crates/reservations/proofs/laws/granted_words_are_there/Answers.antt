use Rattle.reservations.proofs.Sums.{granted_words_are_there}
use Rattle.reservations.proofs.laws.granted_words_are_there.Goals as goal

pub returns : goal.returns
returns c = granted_words_are_there
