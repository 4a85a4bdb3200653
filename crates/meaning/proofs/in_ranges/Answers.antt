-- `meaning::in_ranges` looks through a stretch of ranges. The invariant: what is left decides as the whole does.
use mathlib.Core.Path.{sym, ◌∙◌}
use Rattle.pack_rules.specs.Stretch.{range_at}
use Rattle.meaning.specs.Meaning.{in_range}
use Rattle.meaning.proofs.Meanings.{any_found, any_next, any_none}
use Rattle.meaning.proofs.in_ranges.Goals as goal

pub returns-then-in_range : goal.returns-then-in_range
returns-then-in_range c =
    let a = c.args in
    sym (sym c.loop-k.invariant ∙ any_found (in_range a.x) (range_at a.pack.now.low a.pack.now.high) c.loop-k.k a.to c.loop-k-test.true (sym c.in_range.ensures ∙ c.if-in_range.true))

pub loop-k-preserved : goal.loop-k-preserved
loop-k-preserved c =
    let a = c.args in
    sym (any_next (in_range a.x) (range_at a.pack.now.low a.pack.now.high) c.loop-k.k a.to c.loop-k-test.true (sym c.in_range.ensures ∙ c.if-in_range.false)) ∙ c.loop-k.invariant

pub returns : goal.returns
returns c =
    let a = c.args in
    sym (sym c.loop-k.invariant ∙ any_none (in_range a.x) (range_at a.pack.now.low a.pack.now.high) c.loop-k.k a.to c.loop-k-test.false)
