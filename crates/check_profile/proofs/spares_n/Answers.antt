-- `check_profile::spares_n`: the flag above it.
use mathlib.Core.Path.{refl}
use Rattle.check_laws.proofs.Profiles.{profile_n}
use Rattle.check_profile.proofs.spares_n.Goals as goal

pub returns : goal.returns
returns c = λ d e. profile_n d c.args.p e _ refl
