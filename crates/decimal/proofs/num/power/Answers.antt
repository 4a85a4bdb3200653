-- `decimal::num::power` reads the table: its entries are each ten times the one before.
use native.Mathlib.Omega.{arith}
use mathlib.Core.Path.{◌∙◌}
use Rattle.decimal.proofs.Powers.{powers_at}
use Rattle.decimal.proofs.num.power.Goals as goal

pub returns : goal.returns
returns c = powers_at 19 1 c.args.k (omega (arith, c.requires)) ∙ omega arith
