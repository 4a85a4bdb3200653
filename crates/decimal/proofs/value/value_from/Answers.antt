-- `decimal::value::value_from` works out the value of digits, one after the other.
use native.Mathlib.Omega.{arith}
use Rattle.std.proofs.Common.{rules, tests}
use Rattle.std.proofs.lemmas.Iterator.{YieldsList-from_slice}
use Rattle.std.proofs.lemmas.Iterator.Consumers.{fold_from_yields_List}
use Rattle.decimal.proofs.Values.{one_more, value_fold}
use Rattle.decimal.proofs.value.value_from.Goals as goal

pub returns : goal.returns
returns c =
    let a = c.args in
    let e = fold_from_yields_List _ one_more a.n c.fold.result c.fold.ensures.ran (YieldsList-from_slice a.s.now cc) (λ m x r q k. search (rules, tests)) in
    omega (arith, value_fold a.n a.s.now)
