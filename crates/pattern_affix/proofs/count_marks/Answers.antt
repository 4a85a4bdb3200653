-- `pattern_affix::count_marks` looks for the mark's byte first: a text without it has no such mark.
use native.Mathlib.Omega.{arith}
use mathlib.Core.Path.{◌≡◌, sym, ap, ◌∙◌}
use mathlib.Core.Bool.{false}
use mathlib.Core.Logic.{inl}
use lib.ListN.{length}
use Rattle.std.proofs.Common.{rules, tests}
use Rattle.std.proofs.lemmas.Iterator.Consumers.{YieldsList-from_first, YieldsList-from_filter, YieldsList-at, count_from_yields_List}
use Rattle.pattern_token.specs.declared.Tokens.{Tokens}
use Rattle.pattern_token.specs.Items.{items, items_left}
use Rattle.pattern_affix.proofs.Firsts.{no_marks}
use Rattle.pattern_affix.proofs.Scans.{is_mark, marks_are, items_le}
use Rattle.pattern_affix.proofs.count_marks.Goals as goal

pub count-requires-clause-fits : goal.count-requires-clause-fits
count-requires-clause-fits c =
    let s = c.args.s.now in
    let e : length (items_left c.filter.result.iter) ≡ length (items s) = ap (λ (t : Tokens). length (items_left t)) c.filter.ensures.source ∙ ap length c.items_of.ensures in
    inl (omega (arith, e, items_le false false 0 s))

pub returns-then-contains : goal.returns-then-contains
returns-then-contains c =
    let s = c.args.s.now in
    let w = marks_are c.args.m (items s) in
    let e = count_from_yields_List _ c.count.result c.count.ensures.ran (YieldsList-from_filter _ (is_mark c.args.m) (YieldsList-at c.filter.ensures.source (YieldsList-from_first (λ x. x) items_left _ c.items_of.ensures)) c.filter.ensures.closure (λ x b q k. search (rules, tests))) in
    (e ∙ w.0, omega (arith, items_le false false 0 s))

pub returns-else-contains : goal.returns-else-contains
returns-else-contains c = (sym (no_marks c.args.m c.args.s.now (sym (rw c.mark_byte.ensures at c.if-contains.ensures.value))), omega arith)
