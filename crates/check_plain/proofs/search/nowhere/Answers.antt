-- `check_plain::search::nowhere` is past all numbers.
use native.Mathlib.Omega.{arith}
use Rattle.check_laws.proofs.Spotting.{nowhere_proper}
use Rattle.check_plain.proofs.search.nowhere.Goals as goal

pub returns : goal.returns
returns c = (omega arith, nowhere_proper)
