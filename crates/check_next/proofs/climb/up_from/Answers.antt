-- `check_next::climb::up_from` goes by the cases of `up_to` at its first segment.
use native.Mathlib.Omega.{arith}
use mathlib.Core.Path.{◌∙◌}
use Rattle.check_next.proofs.Climbing.{up_start, up_below, up_behind}
use Rattle.check_next.proofs.climb.up_from.Goals as goal

pub returns-then-r-start : goal.returns-then-r-start
returns-then-r-start c = let a = c.args in let p = c.requires in c.from-start.ensures ∙ up_start a.table.now.starts a.table.now.ends a.k a.to a.m a.r a.z p.0 p.2 (omega (arith, c.from-start.ensures, c.if-r-start.true))

pub returns-then-z-from : goal.returns-then-z-from
returns-then-z-from c = let a = c.args in let p = c.requires in up_below a.table.now.starts a.table.now.ends a.k a.to a.m a.r a.z p.0 p.2 (omega (arith, c.from-start.ensures, c.if-r-start.false)) (omega (arith, c.from.ensures, c.if-z-from.true))

pub returns : goal.returns
returns c = let a = c.args in let p = c.requires in c.start_from.ensures ∙ up_behind a.table.now.starts a.table.now.ends a.k a.to a.m a.r a.z p.0 p.2 (omega (arith, c.from-start.ensures, c.if-r-start.false)) (omega (arith, c.from.ensures, c.if-z-from.false))
