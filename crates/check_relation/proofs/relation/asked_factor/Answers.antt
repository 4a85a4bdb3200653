-- `check_relation::relation::asked_factor`: f, or another, whose factor is 1.
use Rattle.check_laws.proofs.Searched.{factor_f}
use Rattle.check_relation.proofs.Levelling.{factor_one}
use Rattle.check_relation.proofs.relation.asked_factor.Goals as goal

pub returns-then-o-eq-F : goal.returns-then-o-eq-F
returns-then-o-eq-F c = factor_f c.args.q c.args.o c.if-o-eq-F.true

pub returns-else-o-eq-F : goal.returns-else-o-eq-F
returns-else-o-eq-F c = factor_one c.args.q c.args.o c.requires.0 c.requires.1 c.if-o-eq-F.false
