-- `rounding::divide` goes through the digits from the first on. Leading zeros are passed at once. The invariant: the digits passed are those of the quotient of their number, and r is its remainder.
use Rattle.rounding.proofs.Arithmetic.{Dividing}
use Rattle.rounding.proofs.divide.Given as goal

abbrev pub invariant-loop-i : goal.invariant-loop-i
invariant-loop-i l = Dividing l.step l.initial.d l.d l.r l.i
