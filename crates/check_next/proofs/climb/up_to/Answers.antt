-- `check_next::climb::up_to` passes over the segments that end before r. Invariant: the answer is that of the segments left.
use native.Mathlib.Omega.{arith}
use mathlib.Core.Path.{refl, ◌∙◌}
use Rattle.check_next.proofs.Climbing.{up_end, up_skip}
use Rattle.check_next.proofs.climb.up_to.Goals as goal

pub loop-k-init : goal.loop-k-init
loop-k-init c = refl

pub loop-k-preserved : goal.loop-k-preserved
loop-k-preserved c = let a = c.args in let l = c.loop-k in up_skip a.table.now.starts a.table.now.ends l.k a.to a.m a.r a.z (omega (arith, c.loop-k-test.true)) (omega (arith, c.from.ensures, c.if-r-from.false)) ∙ l.invariant

pub returns : goal.returns
returns c = let a = c.args in let l = c.loop-k in up_end a.table.now.starts a.table.now.ends l.k a.to a.m a.r a.z (omega (arith, c.loop-k-test.false)) ∙ l.invariant
