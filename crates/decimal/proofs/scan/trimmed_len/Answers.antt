-- `decimal::scan::trimmed_len` counts the digits left without trailing zeros.
use mathlib.Core.List.{reverse}
use native.Mathlib.Omega.{arith}
use Rattle.std.proofs.Common.{rules, tests}
use Rattle.std.proofs.lemmas.List.{length-reverse}
use Rattle.std.proofs.lemmas.Iterator.Adapters.{YieldsList-from_rev_slice}
use Rattle.std.proofs.lemmas.Iterator.Consumers.{count_from_yields_List}
use Rattle.std.proofs.lemmas.Iterator.Search.{YieldsList-from_take_while}
use Rattle.decimal.specs.Digits.{is_zero}
use Rattle.decimal.proofs.Runs.{counted}
use Rattle.decimal.proofs.Zeros.{trimmed}
use Rattle.decimal.proofs.scan.trimmed_len.Goals as goal

pub overflow_sub-result : goal.overflow_sub-result
overflow_sub-result c =
    let s = c.args.s.now in
    let k = counted is_zero (reverse s) _ (count_from_yields_List _ _ c.count.ensures.ran (YieldsList-from_take_while _ is_zero (YieldsList-from_rev_slice s cc) c.take_while.ensures.closure c.take_while.ensures.done (λ x b q k. search (rules, tests)))) in
    omega (arith, length-reverse s)

pub returns : goal.returns
returns c =
    let s = c.args.s.now in
    let k = counted is_zero (reverse s) _ (count_from_yields_List _ _ c.count.ensures.ran (YieldsList-from_take_while _ is_zero (YieldsList-from_rev_slice s cc) c.take_while.ensures.closure c.take_while.ensures.done (λ x b q k. search (rules, tests)))) in
    (omega (arith, trimmed s), omega arith)
