-- `check_least::search::by_window`: no number, the window's least one, or that of the table from there on.
use native.Mathlib.Omega.{arith}
use mathlib.Core.Path.{sym, ◌∙◌}
use Rattle.pack_rules.specs.Stretch.{table_of}
use Rattle.check_laws.specs.Read.{joined_in}
use Rattle.check_laws.proofs.Searched.{room_le}
use Rattle.check_least.proofs.Searching.{least_free, window_past, window_hit, window_on}
use Rattle.check_least.proofs.search.by_window.Goals as goal

pub in_window-p-requires : goal.in_window-p-requires
in_window-p-requires c = c.requires.fit

pub returns-then-hi-p : goal.returns-then-hi-p
returns-then-hi-p c = let a = c.args in let T = table_of a.pack.now in let x = joined_in T a.s in let p = c.requires in let w = c.in_window-p.ensures in window_past a.q x p.all_levelled w p.fit.2 c.if-hi-p.true

pub returns-then-not-asks_remainder : goal.returns-then-not-asks_remainder
returns-then-not-asks_remainder c = let a = c.args in let T = table_of a.pack.now in let x = joined_in T a.s in let p = c.requires in let w = c.in_window-p.ensures in least_free a.q x p.all_levelled (λ j h. p.unasked j (omega arith) (c.asks_remainder.ensures c.if-not-asks_remainder.true j h)) w

pub passes_at-requires : goal.passes_at-requires
passes_at-requires c = let p = c.requires in (room_le c.args.q c.in_window-p.result c.args.hi p.fit.1 c.in_window-p.ensures.high, p.fit.3, p.fit.4)

pub returns-then-passes_at : goal.returns-then-passes_at
returns-then-passes_at c = let a = c.args in let T = table_of a.pack.now in let x = joined_in T a.s in let p = c.requires in let w = c.in_window-p.ensures in window_hit a.q x p.all_levelled w (omega (arith, c.if-hi-p.false)) (sym c.passes_at.ensures ∙ c.if-passes_at.true)

pub returns : goal.returns
returns c = let a = c.args in let T = table_of a.pack.now in let x = joined_in T a.s in let p = c.requires in let w = c.in_window-p.ensures in window_on a.q x p.all_levelled w c.in_table.ensures
