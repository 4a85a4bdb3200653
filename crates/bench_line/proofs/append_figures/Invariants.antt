-- `bench_line::append_figures` writes the figures one by one. The invariant: what is left to write, written from the place reached on, gives what the whole gives.
use Prim.Native.Nat.{◌≤◌}
use lib.ListN.{length, take, drop}
use Rattle.area.specs.Area.{most}
use Rattle.area.proofs.Pieces.{Left}
use Rattle.bench_line.specs.Lines.{spaced}
use Rattle.bench_line.proofs.append_figures.Given as goal

abbrev pub invariant-loop-n : goal.invariant-loop-n
invariant-loop-n l =
    (l.end ≤ most) × (length l.initial.out ≤ most) × Left l.initial.out l.at (spaced (take l.fn.f.count l.fn.f.values)) l.out l.end (spaced (drop (length l.yielded) (take l.fn.f.count l.fn.f.values)))
