-- `check_places::order::nowhere` has the rank past all.
use Rattle.check_laws.proofs.Spotting.{nowhere_rank, nowhere_proper}
use Rattle.check_places.proofs.order.nowhere.Goals as goal

pub returns : goal.returns
returns c = (nowhere_rank, nowhere_proper)
