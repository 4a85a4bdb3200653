-- `bench_line::append_spaced` writes its pieces one behind the other.
use native.Mathlib.Omega.{arith}
use Rattle.area.proofs.Pieces.{joined}
use Rattle.bench_line.proofs.append_spaced.Goals as goal

pub returns : goal.returns
returns c = joined (omega arith) c.put-space.ensures c.append_number.ensures
