-- `check_profile::allows_zero`: the lowest flag.
use mathlib.Core.Path.{refl}
use Rattle.check_laws.proofs.Profiles.{profile_zero}
use Rattle.check_profile.proofs.allows_zero.Goals as goal

pub returns : goal.returns
returns c = λ d e. profile_zero d c.args.p e _ refl
