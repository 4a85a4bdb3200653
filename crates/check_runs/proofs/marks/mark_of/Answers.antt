-- `check_runs::marks::mark_of` marks the level of a relation that is asked.
use mathlib.Core.Path.{refl}
use Rattle.pack_rules.specs.Stretch.{relation_by}
use Rattle.check_relation.proofs.Levelling.{factor_fits, tier_unasked, tier_asked}
use Rattle.check_runs.proofs.Marking.{noted_not, noted_at}
use Rattle.check_runs.proofs.marks.mark_of.Goals as goal

pub returns-then-k-eq0 : goal.returns-then-k-eq0
returns-then-k-eq0 c =
    let a = c.args in
    let f = c.factor_of-k in
    record {
      tier = λ low high. tier_unasked a.q (relation_by low high a.s) f.result f.ensures c.if-k-eq0.true;
      noted = λ low high. noted_not a.q (relation_by low high a.s) f.result f.ensures a.marks.now.asked c.if-k-eq0.true;
      grown = λ i h. h;
      tiers_kept = refl;
    }

pub level_of-l-requires : goal.level_of-l-requires
level_of-l-requires c =
    let a = c.args in
    factor_fits a.q a.s.operand c.factor_of-k.result c.requires c.factor_of-k.ensures

pub returns : goal.returns
returns c =
    let a = c.args in
    let f = c.factor_of-k in
    let l = c.level_of-l in
    let e = rw c.from.ensures at l.ensures.value in
    record {
      tier = λ low high. tier_asked a.q (relation_by low high a.s) f.result f.ensures l.result c.if-k-eq0.false e;
      noted = λ low high. noted_at a.q (relation_by low high a.s) f.result f.ensures c.mark.new.marks.asked l.result e c.mark.ensures.marked;
      grown = c.mark.ensures.grown;
      tiers_kept = c.mark.ensures.tiers_kept;
    }
