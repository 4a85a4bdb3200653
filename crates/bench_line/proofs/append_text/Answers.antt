-- `bench_line::append_text` writes its pieces one behind the other.
use native.Mathlib.Omega.{arith}
use Rattle.area.proofs.Pieces.{joined}
use Rattle.bench_line.proofs.append_text.Goals as goal

pub returns : goal.returns
returns c = joined (omega arith) (joined (omega arith) c.append-name.ensures c.append-end.ensures) c.put.ensures
