-- `letter_run` counts the letters that a text begins with.
use Rattle.std.proofs.Common.{rules, tests}
use Rattle.std.proofs.lemmas.Iterator.{YieldsList-from_slice}
use Rattle.std.proofs.lemmas.Iterator.Consumers.{count_from_yields_List}
use Rattle.std.proofs.lemmas.Iterator.Search.{YieldsList-from_take_while}
use Rattle.decimal.proofs.Runs.{counted}
use Rattle.pack_token.specs.Token.{is_letter}
use Rattle.pack_token.proofs.letter_run.Goals as goal

pub returns : goal.returns
returns c =
    let s = c.args.s.now in
    let h = counted is_letter s _
    (count_from_yields_List _ _ c.count.ensures.ran
    (YieldsList-from_take_while _ is_letter (YieldsList-from_slice s cc) c.take_while.ensures.closure c.take_while.ensures.done (λ x b q k. search (rules, tests)))) in
    h.0
