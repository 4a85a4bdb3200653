-- `check_digits::digits::digits_of`: by the modulus and the comparison.
use native.Mathlib.Omega.{arith}
use mathlib.Core.Path.{◌≡◌}
use Prim.Native.Nat.{◌%◌}
use borrow.Author.Tests.{not-true, not-false}
use Rattle.pack_rules.specs.Stretch.{relation_by}
use Rattle.check_digits.proofs.Rounds.{ends_any_digit, ends_reached, ends_endless, ends_spared}
use Rattle.check_digits.proofs.digits.digits_of.Goals as goal

pub returns-then-m-gt0 : goal.returns-then-m-gt0
returns-then-m-gt0 c =
    let a = c.args in
    let r = relation_by a.pack.now.low a.pack.now.high a.s in
    (ends_any_digit r c.if-m-gt0.true, omega arith)

pub returns-then-not-s : goal.returns-then-not-s
returns-then-not-s c =
    let a = c.args in
    let r = relation_by a.pack.now.low a.pack.now.high a.s in
    let e : r.modulus % 10 ≡ 0 = omega (arith, c.if-m-gt0.false) in
    (ends_reached r e c.any_reached.result (not-true _ c.if-not-s.true) c.any_reached.ensures.0, c.any_reached.ensures.1)

pub returns-then-m-eq0 : goal.returns-then-m-eq0
returns-then-m-eq0 c =
    let a = c.args in
    let r = relation_by a.pack.now.low a.pack.now.high a.s in
    let e : r.modulus % 10 ≡ 0 = omega (arith, c.if-m-gt0.false) in
    (ends_endless r e (not-false _ c.if-not-s.false) c.if-m-eq0.true, omega arith)

pub returns : goal.returns
returns c =
    let a = c.args in
    let r = relation_by a.pack.now.low a.pack.now.high a.s in
    let e : r.modulus % 10 ≡ 0 = omega (arith, c.if-m-gt0.false) in
    (ends_spared r e c.all_spared.result (not-false _ c.if-not-s.false) c.if-m-eq0.false c.all_spared.ensures.0, c.all_spared.ensures.1)
