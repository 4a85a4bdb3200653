-- `select::mask::with_bit` sets the bit k of a mask that has only lower ones.
use native.Mathlib.Omega.{arith}
use Prim.Native.Nat.{◌^◌}
use native.Mathlib.Nat.{add_comm, zero-mul}
use lib.Pow.{shl_exact}
use lib.Dec.{lit<}
use lib.Bits.{or_shifted_r}
use Rattle.select.proofs.mask.with_bit.Goals as goal

pub returns-then-on : goal.returns-then-on
returns-then-on c =
    let a = c.args in
    rw (c.if-on.true, shl_exact {a = 1} 1 a.k 32 (lit< tt) (omega arith), or_shifted_r 1 a.k a.mask c.requires.0) (add_comm _ _)

pub returns-else-on : goal.returns-else-on
returns-else-on c = rw c.if-on.false (omega (arith, zero-mul (2 ^ c.args.k)))
