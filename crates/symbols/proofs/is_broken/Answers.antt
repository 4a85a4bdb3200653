-- `symbols::is_broken` answers whether a record breaks off. The invariant: the answer for the bytes still to come is the whole answer.
use mathlib.Core.Path.{sym, ◌∙◌}
use Rattle.records.proofs.Walks.{turn}
use Rattle.symbols.proofs.is_broken.Goals as goal

pub loop-rest-preserved : goal.loop-rest-preserved
loop-rest-preserved c = sym (turn c.in-Some.ensures).whole ∙ c.loop-rest.invariant
