-- `bench_line::append_unread` writes its pieces one behind the other.
use native.Mathlib.Omega.{arith}
use Rattle.area.proofs.Pieces.{joined}
use Rattle.bench_line.proofs.append_unread.Goals as goal

pub returns : goal.returns
returns c =
    let a = c.append-mark.ensures in
    let n = c.append_number-number.ensures in
    let p = c.put.ensures in
    joined (omega arith) (joined (omega arith) a n) p
