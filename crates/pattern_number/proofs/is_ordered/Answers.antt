-- `pattern_number::is_ordered` looks at the bytes without commas: `#` first, then digits.
use Rattle.std.proofs.Common.{rules, tests}
use Rattle.std.proofs.lemmas.Iterator.{YieldsList-from_slice}
use mathlib.Core.Path.{◌∙◌}
use Rattle.std.proofs.lemmas.Iterator.Consumers.{YieldsList-from_filter, YieldsList-at}
use Rattle.std.proofs.lemmas.Iterator.Adapters.{YieldsList-from_skip_while}
use Rattle.std.proofs.lemmas.Iterator.Search.{all_from_yields_List}
use Rattle.decimal.specs.Digits.{is_digit}
use Rattle.pattern_number.specs.Shape.{is_hash}
use Rattle.pattern_number.proofs.Scans.{no_comma, ordered_is}
use Rattle.pattern_number.proofs.is_ordered.Goals as goal

pub returns : goal.returns
returns c =
    let s = c.args.s.now in
    all_from_yields_List is_digit _ _ c.all.result c.all.ensures.ran
    (YieldsList-from_skip_while _ _ _ is_hash _ (λ x b q k. search (rules, tests))
    (YieldsList-at c.skip_while.ensures.source (YieldsList-from_filter _ no_comma (YieldsList-from_slice s cc) c.filter.ensures.closure (λ x b q k. search (rules, tests))))
    c.skip_while.ensures.closure c.skip_while.ensures.done_skipping)
    (λ x b q k. search (rules, tests)) ∙ ordered_is s
