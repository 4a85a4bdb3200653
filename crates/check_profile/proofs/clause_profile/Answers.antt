-- `check_profile::clause_profile`: one relation more at each turn.
use mathlib.Core.Path.{refl, ap, ◌∙◌}
use mathlib.Core.List.{[], ◌∷◌}
use mathlib.Core.Logic.{inl, inr}
use native.Mathlib.Omega.{arith}
use Rattle.pack_rules.specs.Stretch.{relation_by, table_of}
use Rattle.pack_rules.specs.declared.single.Single.{Single}
use Rattle.check_laws.specs.Profile.{profile_of}
use Rattle.check_profile.proofs.Meeting.{met_none, met_more}
use Rattle.check_profile.proofs.clause_profile.Goals as goal

pub loop-j-init : goal.loop-j-init
loop-j-init c = let a = c.args in let T = table_of a.pack.now in (omega arith, inr refl, met_none T a.from a.from _ refl c.any_digit-p.ensures)

pub loop-j-preserved : goal.loop-j-preserved
loop-j-preserved c =
    let a = c.args in
    let T = table_of a.pack.now in
    let l = c.loop-j in
    let r = c.relation_profile-p in
    (omega (arith, l.invariant.0), inl (omega (arith, c.loop-j-test.true)), met_more T a.from l.j l.p r.result _ l.invariant.0 l.invariant.2 (r.ensures ∙ ap (λ (s : Single). profile_of (relation_by a.pack.now.low a.pack.now.high s ∷ [])) c.single_at.ensures) refl)
