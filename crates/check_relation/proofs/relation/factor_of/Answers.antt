-- `check_relation::relation::factor_of` gives the operand's factor: a way for each letter.
use Rattle.check_laws.proofs.Searched.{factor_n, factor_i, factor_f, factor_t, factor_none}
use borrow.Author.Rules.{rules}
use Rattle.check_relation.proofs.relation.factor_of.Goals as goal

pub returns-in-110 : goal.returns-in-110
returns-in-110 c = factor_n c.args.q c.args.o c.in-110.is

pub returns-in-105 : goal.returns-in-105
returns-in-105 c = factor_i c.args.q c.args.o c.in-105.is

pub returns-in-102 : goal.returns-in-102
returns-in-102 c = factor_f c.args.q c.args.o c.in-102.is

pub returns-in-116 : goal.returns-in-116
returns-in-116 c = factor_t c.args.q c.args.o c.in-116.is

pub returns-in_default : goal.returns-in_default
returns-in_default c =
    let a = c.args in
    factor_none a.q a.o (search rules) (search rules) (search rules) (search rules)
