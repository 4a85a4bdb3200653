-- `check_profile::spares_f`: the highest flag.
use mathlib.Core.Path.{refl}
use Rattle.check_laws.proofs.Profiles.{profile_f}
use Rattle.check_profile.proofs.spares_f.Goals as goal

pub returns : goal.returns
returns c = λ d e. profile_f d c.args.p e _ refl
