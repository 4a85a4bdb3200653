-- `check_profile::within`: nothing more, or one relation more.
use mathlib.Core.Path.{ap}
use Prim.Native.Nat.{ℕ}
use lib.Bits.{bit_and}
use native.Mathlib.Omega.{arith}
use Rattle.check_laws.proofs.Profiles.{bounded_profile, unbounded_profile}
use Rattle.check_profile.proofs.within.Goals as goal

pub returns-then-is_free : goal.returns-then-is_free
returns-then-is_free c = let f = c.is_free.ensures c.if-is_free.true in λ d e. unbounded_profile c.args.b d c.args.p f.0 f.1 e

pub any_digit-requires : goal.any_digit-requires
any_digit-requires c = let z = c.between-v.ensures.1 in (omega arith, omega arith, omega arith, omega arith)

pub returns : goal.returns
returns c = λ d e. bounded_profile c.args.b d c.between-v.result c.args.p _ c.between-v.ensures.0 e (ap (λ (x : ℕ). bit_and x c.args.p) c.any_digit.ensures)
