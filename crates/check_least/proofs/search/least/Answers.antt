-- `check_least::search::least`: none before the first number passes; it is the answer where it passes.
use native.Mathlib.Omega.{arith}
use mathlib.Core.Path.{sym, ◌∙◌}
use Rattle.pack_rules.specs.Stretch.{table_of}
use Rattle.check_laws.specs.Fast.{passes_all}
use Rattle.check_laws.specs.Read.{joined_in}
use Rattle.check_laws.proofs.Searched.{room_le}
use Rattle.check_least.proofs.Searching.{passed_ends, passed_hit, passed_end}
use Rattle.check_least.proofs.search.least.Goals as goal

pub first-x-requires : goal.first-x-requires
first-x-requires c = omega (arith, c.requires.1.self, c.requires.2)

pub returns-then-hi-x : goal.returns-then-hi-x
returns-then-hi-x c =
    let a = c.args in
    let T = table_of a.pack.now in
    let c' = joined_in T a.s in
    let f = c.first-x in
    passed_end (passes_all a.q c') a.lo a.hi f.result (passed_ends a.q c' a.lo f.result f.ensures.0 f.ensures.2) c.requires.2 (omega (arith, c.if-hi-x.true))

pub passes_at-requires : goal.passes_at-requires
passes_at-requires c =
    let a = c.args in
    let p = c.requires in
    (room_le a.q c.first-x.result a.hi p.1 (omega (arith, c.if-hi-x.false)), p.3, p.4)

pub returns-then-passes_at : goal.returns-then-passes_at
returns-then-passes_at c =
    let a = c.args in
    let T = table_of a.pack.now in
    let c' = joined_in T a.s in
    let f = c.first-x in
    passed_hit (passes_all a.q c') a.lo a.hi f.result (passed_ends a.q c' a.lo f.result f.ensures.0 f.ensures.2) (omega (arith, c.if-hi-x.false)) (sym c.passes_at.ensures ∙ c.if-passes_at.true)

pub by_levels-requires : goal.by_levels-requires
by_levels-requires c = c.requires

pub returns : goal.returns
returns c = c.by_levels.ensures
