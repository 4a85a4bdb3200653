-- `check_runs::marks::mark` sets a mark, and clears none.
use native.Mathlib.Omega.{arith}
use Prim.Native.Nat.{◌<◌}
use mathlib.Core.Bool.{true, false}
use mathlib.Core.Path.{refl}
use lib.ListN.{length}
use lib.Seq.{get_or-set_same}
use Rattle.check_runs.proofs.Marking.{grown_set}
use Rattle.check_runs.proofs.marks.mark.Goals as goal

pub returns : goal.returns
returns c =
    let a = c.args in
    let h : a.l < length a.marks.now.asked = omega (arith) in
    record {
      marked = get_or-set_same a.marks.now.asked a.l true false h;
      grown = grown_set a.marks.now.asked a.l h;
      tiers_kept = refl;
    }
