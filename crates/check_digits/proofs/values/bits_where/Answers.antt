-- `check_digits::values::bits_where`: one value more at each turn.
use mathlib.Core.Path.{sym, ◌∙◌}
use Prim.Native.Nat.{◌<◌}
use native.Mathlib.Omega.{arith}
use Rattle.std.proofs.Common.{rules}
use Rattle.select.proofs.Masks.{mask_none}
use Rattle.check_digits.proofs.Filling.{on_lt, off_lt, on_more, off_more}
use Rattle.check_digits.proofs.values.bits_where.Goals as goal
use Rattle.check_digits.proofs.values.bits_where.Goals.{then-test, else-test}

pub loop-x-init : goal.loop-x-init
loop-x-init g c = (omega arith, omega arith, λ p h. mask_none p)

pub loop-x-preserved : goal.loop-x-preserved
loop-x-preserved g c =
    let l = c.loop-x in
    let i = l.invariant in
    let few : l.x < 15 = omega (arith, c.requires.few, c.loop-x-test.true) in
    elim c.if-test.branch [
      | then-test w ↦ (search rules, on_lt l.x l.mask _ i.1 few w.mask-is, λ p h. on_more l.x l.mask _ i.1 p (i.2 p h) (sym w.if-test.true ∙ h l.x _ c.loop-x-test.true c.test.ensures) few w.mask-is)
      | else-test w ↦ (search rules, off_lt l.x l.mask _ i.1 w.mask-is, λ p h. off_more l.x l.mask _ i.1 p (i.2 p h) (sym w.if-test.false ∙ h l.x _ c.loop-x-test.true c.test.ensures) w.mask-is)
    ]
