-- `pattern_affix::has_reserved` looks for the bytes first: a text without them has no reserved item.
use mathlib.Core.Path.{sym, ◌∙◌}
use mathlib.Core.Bool.{false}
use Rattle.std.proofs.Common.{rules, tests}
use Rattle.std.proofs.lemmas.Iterator.{YieldsList-from_slice}
use Rattle.std.proofs.lemmas.Iterator.Consumers.{YieldsList-from_first}
use Rattle.std.proofs.lemmas.Iterator.Search.{any_from_yields_List}
use Rattle.pattern_token.specs.Items.{items, items_left}
use Rattle.pattern_affix.specs.Affixes.{reserves}
use Rattle.pattern_affix.specs.Firsts.{may_reserve}
use Rattle.pattern_affix.proofs.Firsts.{free_any, items_free}
use Rattle.pattern_affix.proofs.Scans.{reserved_is}
use Rattle.pattern_affix.proofs.has_reserved.Goals as goal

pub returns-then-any : goal.returns-then-any
returns-then-any c =
    any_from_yields_List reserves c.any-then-any.new.self _ c.any-then-any.result c.any-then-any.ensures.ran (YieldsList-from_first (λ x. x) items_left _ c.items_of.ensures) (λ x b q k. search (rules, tests))
    ∙ reserved_is (items c.args.s.now)

pub returns-else-any : goal.returns-else-any
returns-else-any c =
    let s = c.args.s.now in
    let e = any_from_yields_List may_reserve _ _ c.any.result c.any.ensures.ran (YieldsList-from_slice s cc) (λ x b q k. search (rules, tests)) in
    c.if-any.false ∙ sym (items_free false false 0 s (free_any s (sym e ∙ c.if-any.false)))
