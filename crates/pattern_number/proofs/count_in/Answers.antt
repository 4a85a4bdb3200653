-- `pattern_number::count_in` counts the bytes that a test keeps.
use Rattle.std.proofs.Common.{rules, tests}
use Rattle.std.proofs.lemmas.Iterator.{YieldsList-from_slice}
use Rattle.std.proofs.lemmas.Iterator.Consumers.{count_from_yields_List, YieldsList-from_filter}
use Rattle.pattern_number.specs.Shape.{between}
use Rattle.pattern_number.proofs.Scans.{counted_in}
use Rattle.pattern_number.proofs.count_in.Goals as goal

pub returns : goal.returns
returns c =
    let a = c.args in
    let s = a.s.now in
    counted_in a.low a.high s _ (count_from_yields_List _ _ c.count.ensures.ran (YieldsList-from_filter _ (between a.low a.high) (YieldsList-from_slice s cc) c.filter.ensures.closure (λ x b q k. search (rules, tests))))
