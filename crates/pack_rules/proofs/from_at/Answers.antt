-- `pack_rules::from_at` gives the end of the ranges before, or 0.
use borrow.Author.Tests.{eq-eqb, ne_eqb}
use Rattle.pack_rules.proofs.from_at.Goals as goal

pub returns-then-j-eq0 : goal.returns-then-j-eq0
returns-then-j-eq0 c = rw (eq-eqb c.args.j 0 c.if-j-eq0.true)

pub returns : goal.returns
returns c = rw (ne_eqb c.args.j 0 c.if-j-eq0.false) c.end_at.ensures
