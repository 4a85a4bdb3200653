-- The two engines of the pack check agree.
use Rattle.std.specs.Prelude.{Result}
use mathlib.Core.Path.{◌≡◌, sym, ◌∙◌}
use Rattle.pack_rules.specs.declared.Pack.{Pack}
use Rattle.pack_rules.specs.Held.{held_rules}
use Rattle.check_laws.specs.declared.Clash.{Clash}
use Rattle.check_laws.specs.Check.{check_of}

-- For every pack, what `check_pairs::check` returns and what `check_plain::check` returns are equal: each is what its contract says.
pub engines_agree : (p : Pack) (fast plain : Result (Unit {0}) Clash) → fast ≡ check_of (held_rules p) → plain ≡ check_of (held_rules p) → fast ≡ plain
engines_agree p fast plain f g = f ∙ sym g
