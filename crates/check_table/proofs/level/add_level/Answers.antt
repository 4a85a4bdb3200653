-- `check_table::level::add_level`: the level asks nothing, or has segments, or lets no number pass, or has no room.
use native.Mathlib.Omega.{arith}
use mathlib.Core.List.{List}
use mathlib.Core.Path.{ap}
use Prim.Native.Nat.{ℕ}
use lib.ListN.{get_or}
use Rattle.pack_rules.specs.Stretch.{table_of}
use Rattle.check_laws.specs.Read.{joined_in}
use Rattle.check_table.proofs.Building.{added_free, added_level, added_none, is_full}
use Rattle.check_table.proofs.level.add_level.Goals as goal

pub returns-then-not-marks-j : goal.returns-then-not-marks-j
returns-then-not-marks-j c =
    let a = c.args in
    let p = c.requires in
    let c' = joined_in (table_of a.pack.now) a.s in
    added_free a.q c' p.laid p.tabled p.fit.4 (p.unasked c.if-not-marks-j.true)

pub fill_level-end-requires : goal.fill_level-end-requires
fill_level-end-requires c =
    let p = c.requires in
    record {
      fit = p.fit;
      laid = p.laid;
      tabled = p.tabled;
    }

pub returns-then-end-gt-ROOM : goal.returns-then-end-gt-ROOM
returns-then-end-gt-ROOM c = is_full

pub returns-then-end-from : goal.returns-then-end-from
returns-then-end-from c =
    let a = c.args in
    let p = c.requires in
    let c' = joined_in (table_of a.pack.now) a.s in
    let f = c.fill_level-end in
    added_none a.q c' f.ensures.laid_after f.ensures.tabled_after p.fit.4 f.result (f.ensures.covers (omega (arith, c.if-end-gt-ROOM.false))) (omega (arith, c.if-end-from.true, ap (λ (t : List ℕ). get_or t a.j 0) f.ensures.at_kept))

pub returns : goal.returns
returns c =
    let a = c.args in
    let p = c.requires in
    let c' = joined_in (table_of a.pack.now) a.s in
    let f = c.fill_level-end in
    added_level a.q c' f.ensures.laid_after f.ensures.tabled_after p.fit.4 f.result (f.ensures.covers (omega (arith, c.if-end-gt-ROOM.false))) (omega (arith, c.if-end-from.false, ap (λ (t : List ℕ). get_or t a.j 0) f.ensures.at_kept)) (omega (arith, c.if-end-gt-ROOM.false))
