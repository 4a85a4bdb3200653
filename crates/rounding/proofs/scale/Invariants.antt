-- `rounding::scale` goes through the digits from the last on. The invariant: the digits still to come, times m and with what is carried, and those behind them are the whole.
use Rattle.rounding.proofs.Arithmetic.{Scaling}
use Rattle.rounding.proofs.scale.Given as goal

abbrev pub invariant-loop-i : goal.invariant-loop-i
invariant-loop-i l = Scaling l.m l.c l.initial.d l.d l.over l.i
