-- `decimal::figure::write_figures` fills an area of zeros with the last digits of a number, from the end on until none is left. The invariant: the digits
-- still to write and those written behind them are the whole, and before them zeros stand.
use mathlib.Core.Path.{◌≡◌}
use mathlib.Core.List.{◌++◌}
use Prim.Native.Nat.{◌≤◌}
use lib.ListN.{length, take, drop}
use Rattle.decimal.specs.Digits.{figures}
use Rattle.decimal.proofs.figure.write_figures.Given as goal

abbrev pub invariant-loop-i : goal.invariant-loop-i
invariant-loop-i l = (length l.out ≡ length l.initial.out) × (l.i ≤ length l.out) × (figures l.i l.m ++ drop l.i l.out ≡ figures (length l.initial.out) l.n) × (take l.i l.out ≡ figures l.i 0)
