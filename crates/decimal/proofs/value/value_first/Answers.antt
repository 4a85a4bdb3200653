-- `decimal::value::value_first` works out the value of first digits, with zeros after the end.
use mathlib.Core.Path.{◌≡◌}
use Prim.Native.Nat.{◌-◌}
use native.Mathlib.Omega.{arith}
use lib.ListN.{length}
use Rattle.std.proofs.Common.{rules, tests}
use Rattle.std.proofs.lemmas.Iterator.Adapters.{YieldsList-from_repeat_n}
use Rattle.std.proofs.lemmas.Iterator.Consumers.{fold_from_yields_List}
use Rattle.decimal.proofs.Values.{one_more, value_padded}
use Rattle.decimal.proofs.value.value_first.Goals as goal

pub returns : goal.returns
returns c =
    let a = c.args in
    let s = a.s.now in
    let zeros = YieldsList-from_repeat_n (λ x y. y ≡ x) (a.k - length s) 48 (search rules) c.repeat_n-zeros.ensures.item (λ y e. e) in
    let e = fold_from_yields_List _ one_more _ c.fold.result c.fold.ensures.ran zeros (λ m x r q k. search (rules, tests)) in
    let v = rw c.upto.ensures at c.value_from.ensures in
    omega (arith, rw v at e, value_padded a.n a.k s)
