-- `screen_figures::put_values` stores the values one by one. The invariant: what is left to store, stored from the place reached on, gives what the whole gives.
use native.Mathlib.Omega.{arith}
use mathlib.Core.Path.{◌∙◌}
use Prim.Native.Nat.{ℕ}
use lib.ListN.{length-set}
use Rattle.screen_figures.proofs.Noted.{again}
use Rattle.screen_figures.proofs.put_values.Goals as goal

pub loop-k-preserved : goal.loop-k-preserved
loop-k-preserved c =
    let a = c.args in
    let h = c.loop-k-test.true in
    let p = c.put.ensures in (
      omega arith,
      c.loop-k.invariant.1,
      rw (p, length-set {A = ℕ}) c.loop-k.invariant.2,
      rw p (again c.loop-k.figures a.values.now a.n c.loop-k.k h c.loop-k.invariant.1 ∙ c.loop-k.invariant.3),
    )
