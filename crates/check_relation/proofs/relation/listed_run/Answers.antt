-- `check_relation::relation::listed_run` turns the answer where the relation is negated.
use mathlib.Core.Bool.{Bool, true, false, not, beq}
use mathlib.Core.Path.{◌≡◌, refl}
use Rattle.std.specs.Prelude.{if◌then◌else◌}
use Rattle.pack_rules.specs.Stretch.{ranges_in, relation_by}
use Rattle.check_relation.proofs.Levelling.{listed_run}
use Rattle.check_relation.proofs.relation.listed_run.Goals as goal

turned : (b n : Bool) → not (beq b n) ≡ (if n then not b else b)
turned true true = refl
turned true false = refl
turned false true = refl
turned false false = refl

pub returns-clause-alike : goal.returns-clause-alike
returns-clause-alike c =
    let a = c.args in
    let r = c.range_run-r in
    listed_run (relation_by a.pack.now.low a.pack.now.high a.s) _ (ranges_in a.pack.now.low a.pack.now.high a.s.from a.s.to) refl r.ensures.alike (turned r.result.says a.s.negated)
