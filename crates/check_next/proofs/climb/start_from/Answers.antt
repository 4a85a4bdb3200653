-- `check_next::climb::start_from` reads the first start, if there is one.
use native.Mathlib.Omega.{arith}
use mathlib.Core.Path.{◌∙◌}
use Rattle.check_next.proofs.Climbing.{first_at, first_end}
use borrow.Author.Rules.{rules}
use Rattle.check_next.proofs.climb.start_from.Goals as goal

pub returns-then-to-k : goal.returns-then-to-k
returns-then-to-k c = let a = c.args in first_end a.table.now.starts a.table.now.ends a.k a.to a.m (omega (arith, c.if-to-k.true))

pub returns : goal.returns
returns c = let a = c.args in (search rules) ∙ first_at a.table.now.starts a.table.now.ends a.k a.to a.m (omega (arith, c.if-to-k.false))
