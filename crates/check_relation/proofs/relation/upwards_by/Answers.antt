-- `check_relation::relation::upwards_by` rounds a quotient up.
use Rattle.check_relation.proofs.Levelling.{up_one, up_more}
use borrow.Author.Rules.{rules}
use Rattle.check_relation.proofs.relation.upwards_by.Goals as goal

pub returns-then-s-eq1 : goal.returns-then-s-eq1
returns-then-s-eq1 c = up_one c.args.y c.args.s (search rules)

pub returns-else-s-eq1 : goal.returns-else-s-eq1
returns-else-s-eq1 c = up_more c.args.y c.args.s (search rules)
