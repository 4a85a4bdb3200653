-- `decimal::figure::write_figures` fills an area of zeros with the last digits of a number, from the end on until none is left. The invariant: the digits
-- still to write and those written behind them are the whole, and before them zeros stand.
use mathlib.Core.Path.{refl, ◌∙◌}
use Prim.Native.Nat.{◌+◌, ◌%◌, ◌-◌}
use lib.ListN.{length-set}
use native.Mathlib.Omega.{arith}
use Rattle.decimal.proofs.Figured.{figures_start, figures_again, zeros_start, zeros_less}
use Rattle.decimal.proofs.figure.write_figures.Goals as goal

pub loop-i-init : goal.loop-i-init
loop-i-init c =
    let f = c.fill in
    (refl, omega arith, figures_start c.args.n f.new.self, zeros_start _ f.new.self (f.ensures.after (λ y e. e)))

pub loop-i-preserved : goal.loop-i-preserved
loop-i-preserved c =
    let l = c.loop-i in (
      simp length-set l.invariant.0,
      simp length-set (omega arith),
      figures_again l.m l.i (l.i - 1) l.out (omega arith) (omega arith) ∙ l.invariant.2,
      zeros_less l.i (l.i - 1) (48 + l.m % 10) l.out (omega arith) l.invariant.3,
    )
