-- `check_profile::exponent_of`: no bit of e is set, or the lowest of them is the least e.
use mathlib.Core.Path.{refl}
use Prim.Native.Nat.{◌%◌}
use lib.Count.{trailing_le}
use native.Mathlib.Omega.{arith}
use Rattle.check_laws.proofs.Profiles.{profile_exponent, profile_no_exponent}
use Rattle.check_profile.proofs.exponent_of.Goals as goal

pub returns-then-e-eq0 : goal.returns-then-e-eq0
returns-then-e-eq0 c = λ d e. profile_no_exponent d c.args.p e _ _ refl c.if-e-eq0.true refl

pub overflow_cast-result : goal.overflow_cast-result
overflow_cast-result c = omega (arith, trailing_le 64 (c.args.p % 1048576))

pub returns : goal.returns
returns c = λ d e. profile_exponent d c.args.p e _ _ refl c.if-e-eq0.false refl
