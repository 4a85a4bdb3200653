-- `check_least::search::by_levels`: by its levels, or where they do not serve each number is tried.
use native.Mathlib.Omega.{arith}
use Prim.Native.Nat.{ℕ}
use lib.ListN.{length-replicate}
use Rattle.check_least.proofs.search.by_levels.Goals as goal

pub size_of-requires : goal.size_of-requires
size_of-requires c = (c.requires.3, c.requires.4)

pub try_each-requires : goal.try_each-requires
try_each-requires c = let p = c.requires in (p.1, p.2, p.3, p.4)

pub returns-then-size_of-gt-KEPT : goal.returns-then-size_of-gt-KEPT
returns-then-size_of-gt-KEPT c = c.try_each.ensures

pub mark_levels-requires : goal.mark_levels-requires
mark_levels-requires c = let p = c.requires in
    record {
      fit = p.0;
      in_room = (p.3, p.4, omega (arith, c.size_of.ensures, c.if-size_of-gt-KEPT.false), length-replicate {A = ℕ} 16 0);
    }

pub try_each-requires-then-marks-offset8 : goal.try_each-requires-then-marks-offset8
try_each-requires-then-marks-offset8 c = let p = c.requires in (p.1, p.2, p.3, p.4)

pub returns-then-marks-offset8 : goal.returns-then-marks-offset8
returns-then-marks-offset8 c = c.try_each-then-marks-offset8.ensures

pub by_window-requires : goal.by_window-requires
by_window-requires c = let m = c.mark_levels.ensures in let p = c.requires in
    record {
      fit = (p.0, p.1, p.2, p.3, p.4, omega (arith, c.size_of.ensures, c.if-size_of-gt-KEPT.false), m.told);
      all_levelled = m.all_levelled c.if-marks-offset8.false;
      unasked = m.unasked;
    }
