-- `check_runs::marks::list_level` stores each index, and goes on behind it where it is of the level. Invariant: those so far are gathered.
use mathlib.Core.Path.{◌∙◌}
use native.Mathlib.Omega.{arith}
use lib.ListN.{length-set}
use borrow.Author.Tests.{eq-eqb, ne_eqb}
use Rattle.check_runs.proofs.Keeping.{gathered_more, gathered_same}
use Rattle.check_runs.proofs.marks.list_level.Goals as goal
use Rattle.check_runs.proofs.marks.list_level.Goals.{then-marks-k, else-marks-k}

pub loop-k-preserved : goal.loop-k-preserved
loop-k-preserved c =
    let a = c.args in
    let l = c.loop-k in
    let g = l.invariant.0 in (
      elim c.if-marks-k.branch [
        | then-marks-k w ↦ gathered_more a.marks.now.tiers a.level l.at l.count l.k g (omega (arith, g.few, l.invariant.1, c.loop-k-test.true, c.requires)) c.if-marks-k.count (eq-eqb _ _ w.if-marks-k.true) (omega (arith, w.count-is))
        | else-marks-k w ↦ gathered_same a.marks.now.tiers a.level l.at l.count l.k g (omega (arith, g.few, l.invariant.1, c.loop-k-test.true, c.requires)) c.if-marks-k.count (ne_eqb _ _ w.if-marks-k.false) (omega (arith, w.count-is))
      ],
      length-set l.at l.count l.k ∙ l.invariant.1,
      omega (arith, c.loop-k-test.true),
    )
