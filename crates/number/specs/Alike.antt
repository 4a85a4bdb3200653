-- Texts that document 01 calls alike: "`c` and `e` mean the same. [..] Leading integer zeros and the sign change no operand."
use Rattle.answer.specs.declared.Refusal.{Refusal}
use Rattle.std.specs.Prelude.{Err, Ok, Result, true}
use Rattle.number.specs.declared.Number.{Number}

-- the number with the sign, and the same operands
abbrev pub negative : Number → Number
negative n = record { negative = true; e = n.e; i = n.i; v = n.v; f = n.f; w = n.w; t = n.t }

abbrev pub negated : Result Number Refusal → Result Number Refusal
negated (Ok n) = Ok (negative n)
negated (Err r) = Err r
