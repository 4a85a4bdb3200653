-- `check_relation::relation::level_of` gives the level: a way for each of them, in the order of the definition.
use Rattle.check_relation.proofs.Levelling.{level_window, level_within, level_apart, level_1, level_2, level_3, level_4, level_5, level_6, level_stray}
use Rattle.check_relation.proofs.relation.level_of.Goals as goal

pub returns-then-w-eq0-clause-value : goal.returns-then-w-eq0-clause-value
returns-then-w-eq0-clause-value c = level_window c.args.s c.args.w c.if-w-eq0.true

pub returns-then-s-w-eq0-clause-value : goal.returns-then-s-w-eq0-clause-value
returns-then-s-w-eq0-clause-value c =
    let a = c.args in level_within a.s a.w c.if-w-eq0.false c.if-w-s.true c.if-s-w-eq0.true

pub returns-then-w-s-clause-value : goal.returns-then-w-s-clause-value
returns-then-w-s-clause-value c =
    let a = c.args in level_apart a.s a.w c.if-w-eq0.false c.if-w-s.true c.if-s-w-eq0.false

pub returns-then-w-s-2-clause-value : goal.returns-then-w-s-2-clause-value
returns-then-w-s-2-clause-value c =
    let a = c.args in level_1 a.s a.w c.if-w-eq0.false c.if-w-s.false c.if-w-s-2.true

pub returns-then-w-s-3-clause-value : goal.returns-then-w-s-3-clause-value
returns-then-w-s-3-clause-value c =
    let a = c.args in level_2 a.s a.w c.if-w-eq0.false c.if-w-s.false c.if-w-s-2.false c.if-w-s-3.true

pub returns-then-w-s-4-clause-value : goal.returns-then-w-s-4-clause-value
returns-then-w-s-4-clause-value c =
    let a = c.args in level_3 a.s a.w c.if-w-eq0.false c.if-w-s.false c.if-w-s-2.false c.if-w-s-3.false c.if-w-s-4.true

pub returns-then-w-s-5-clause-value : goal.returns-then-w-s-5-clause-value
returns-then-w-s-5-clause-value c =
    let a = c.args in level_4 a.s a.w c.if-w-eq0.false c.if-w-s.false c.if-w-s-2.false c.if-w-s-3.false c.if-w-s-4.false c.if-w-s-5.true

pub returns-then-w-s-6-clause-value : goal.returns-then-w-s-6-clause-value
returns-then-w-s-6-clause-value c =
    let a = c.args in level_5 a.s a.w c.if-w-eq0.false c.if-w-s.false c.if-w-s-2.false c.if-w-s-3.false c.if-w-s-4.false c.if-w-s-5.false c.if-w-s-6.true

pub returns-then-w-s-7-clause-value : goal.returns-then-w-s-7-clause-value
returns-then-w-s-7-clause-value c =
    let a = c.args in level_6 a.s a.w c.if-w-eq0.false c.if-w-s.false c.if-w-s-2.false c.if-w-s-3.false c.if-w-s-4.false c.if-w-s-5.false c.if-w-s-6.false c.if-w-s-7.true

pub returns-clause-value : goal.returns-clause-value
returns-clause-value c =
    let a = c.args in level_stray a.s a.w c.if-w-eq0.false c.if-w-s.false c.if-w-s-2.false c.if-w-s-3.false c.if-w-s-4.false c.if-w-s-5.false c.if-w-s-6.false c.if-w-s-7.false
