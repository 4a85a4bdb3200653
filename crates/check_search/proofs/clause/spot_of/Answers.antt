-- `check_search::clause::spot_of`: there is no i, or there are both.
use native.Mathlib.Omega.{arith}
use Rattle.check_laws.proofs.Spotting.{kind_no_integer, kind_found, kind_proper}
use borrow.Author.Rules.{rules}
use Rattle.check_search.proofs.clause.spot_of.Goals as goal

pub returns-then-i-ge-INTEGER_LIMIT : goal.returns-then-i-ge-INTEGER_LIMIT
returns-then-i-ge-INTEGER_LIMIT c = (λ w x g f. kind_no_integer w c.args.e x c.args.q c.args.i _ g c.requires.1 f c.if-i-ge-INTEGER_LIMIT.true c.nowhere.ensures.0, c.nowhere.ensures.1)

pub overflow_cast-result : goal.overflow_cast-result
overflow_cast-result c = omega (arith, c.requires.0)

pub overflow_cast-result-2 : goal.overflow_cast-result-2
overflow_cast-result-2 c = omega (arith, c.requires.1)

pub returns : goal.returns
returns c = (λ w x g f. kind_found w c.args.e x c.args.q c.args.i g c.requires.1 f (search rules), kind_proper c.args.e c.args.q c.args.i c.requires.0 c.requires.1 (search rules))
