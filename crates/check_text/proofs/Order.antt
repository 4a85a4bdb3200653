-- The check tests the pack, then 27; the pack that is `other:` alone passes.
use Rattle.std.specs.Prelude.{Ok}
use Rattle.std.specs.Prelude.{Ok}
use mathlib.Core.Path.{◌≡◌, refl, sym, ap, ◌∙◌}
use mathlib.Core.Bool.{true}
use mathlib.Core.List.{List, [], ◌∷◌}
use Prim.Native.Nat.{ℕ}
use Rattle.pack_bare.specs.Bare.{is_bare, bare_rule}
use Rattle.pack_bare.proofs.Bares.{bare_read}
use Rattle.check_laws.specs.Check.{against, first_pair, check_of}
use Rattle.check_text.specs.Check.{checked_by, check_rules, check_pack}

-- one rule has none to meet with
alone : check_of (bare_rule ∷ []) ≡ Ok tt
unfolding against first_pair
alone = refl

pub bare_passes : (pack : List ℕ) → is_bare pack ≡ true → Ok tt ≡ check_pack pack
bare_passes pack e = sym (ap check_rules (bare_read pack e) ∙ ap checked_by alone)
