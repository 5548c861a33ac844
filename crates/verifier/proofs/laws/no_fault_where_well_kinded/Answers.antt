use Rattle.verifier.proofs.Law.{no_fault_where_well_kinded}
use Rattle.verifier.proofs.laws.no_fault_where_well_kinded.Goals as goal

pub returns : goal.returns
returns c = no_fault_where_well_kinded
