-- `pattern_reader::place_run` counts the number-part bytes at the front.
use Rattle.std.proofs.Common.{rules, tests}
use Rattle.std.proofs.lemmas.Iterator.{YieldsList-from_slice}
use Rattle.std.proofs.lemmas.Iterator.Consumers.{count_from_yields_List}
use Rattle.std.proofs.lemmas.Iterator.Search.{YieldsList-from_take_while}
use Rattle.decimal.proofs.Runs.{counted}
use Rattle.pattern_token.specs.Items.{is_place}
use Rattle.pattern_reader.proofs.place_run.Goals as goal

pub returns : goal.returns
returns c =
    let s = c.args.s.now in
    counted is_place s _ (count_from_yields_List _ _ c.count.ensures.ran (YieldsList-from_take_while _ is_place (YieldsList-from_slice s cc) c.take_while.ensures.closure c.take_while.ensures.done (λ x b q k. search (rules, tests))))
