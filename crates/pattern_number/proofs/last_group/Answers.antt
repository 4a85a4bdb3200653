-- `pattern_number::last_group` finds the last comma from the end.
use Rattle.std.proofs.Common.{rules, tests}
use Rattle.std.proofs.lemmas.Iterator.Adapters.{YieldsList-from_rev_slice}
use Rattle.std.proofs.lemmas.Iterator.Search.{position_from_yields_List}
use Rattle.pattern_number.proofs.Scans.{is_comma, last_from}
use Rattle.pattern_number.proofs.last_group.Goals as goal

pub returns : goal.returns
returns c =
    let s = c.args.s.now in
    last_from s c.position.result (position_from_yields_List is_comma _ _ c.position.result c.position.ensures.ran (YieldsList-from_rev_slice s cc) (λ x b q k. search (rules, tests)))
