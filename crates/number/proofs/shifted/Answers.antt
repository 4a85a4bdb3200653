-- `number::shifted` answers `sized`: the value of i tells its count of digits, and v, f, w and t are exact since v is small.
use native.Mathlib.Omega.{arith}
use mathlib.Core.Path.{◌≡◌, sym, ◌∙◌}
use mathlib.Core.List.{◌++◌}
use borrow.Author.Tests.{lt-ltb, le-ltb}
use lib.ListN.{length}
use lib.Seq.{length-take-le}
use Rattle.decimal.specs.Digits.{value, first, trim, AllDigits, is_digit}
use Rattle.decimal.proofs.Runs.{of_append, of_drop, of_take}
use Rattle.decimal.proofs.Values.{digits_first}
use Rattle.decimal.proofs.Zeros.{trim_front}
use Rattle.number.specs.Limits.{max_digits, max_places}
use Rattle.number.specs.Reading.{significant}
use Rattle.number.proofs.Sizes.{over_digits, within_digits, shift_value, small_value}
use Rattle.number.proofs.shifted.Goals as goal

pub returns-then-i-ge-INTEGER_LIMIT : goal.returns-then-i-ge-INTEGER_LIMIT
returns-then-i-ge-INTEGER_LIMIT c =
    let a = c.args in
    let n = c.value_of in
    let x = first a.e a.fraction.now in
    let k = shift_value a.whole.now x n.result c.value_first-i.result n.ensures c.value_first-i.ensures in
    let d = of_append is_digit a.whole.now x c.requires.1 (digits_first a.e a.fraction.now c.requires.2) in
    rw (lt-ltb max_digits (significant (a.whole.now ++ x)) (over_digits (a.whole.now ++ x) d (omega arith))) c.refuse.ensures

pub returns-then-v-gt-MAX_PLACES : goal.returns-then-v-gt-MAX_PLACES
returns-then-v-gt-MAX_PLACES c =
    let a = c.args in
    let m = c.value_first-i in
    let n = c.value_of in
    let x = first a.e a.fraction.now in
    let k = shift_value a.whole.now x n.result m.result n.ensures m.ensures in
    let d = of_append is_digit a.whole.now x c.requires.1 (digits_first a.e a.fraction.now c.requires.2) in
    rw (le-ltb max_digits (significant (a.whole.now ++ x)) (within_digits (a.whole.now ++ x) d (omega arith)), ← c.after-rest.ensures, lt-ltb max_places (length c.after-rest.result.now) c.if-v-gt-MAX_PLACES.true) c.refuse-then-v-gt-MAX_PLACES.ensures

pub returns : goal.returns
returns c =
    let a = c.args in
    let m = c.value_first-i in
    let n = c.value_of in
    let r = c.after-rest in
    let rest = r.result.now in
    let w = c.trimmed_len-w in
    let f = c.value_of-f in
    let u = c.upto in
    let kept = u.result.now in
    let t = c.value_of-t in
    let v-small = c.if-v-gt-MAX_PLACES.false in
    let x = first a.e a.fraction.now in
    let k = shift_value a.whole.now x n.result m.result n.ensures m.ensures in
    let d = of_append is_digit a.whole.now x c.requires.1 (digits_first a.e a.fraction.now c.requires.2) in
    let dr : AllDigits rest = rw r.ensures (of_drop is_digit a.e a.fraction.now c.requires.2) in
    let kt : kept ≡ trim rest = u.ensures ∙ rw w.ensures.0 (sym (trim_front rest)) in
    let dk : AllDigits kept = rw u.ensures (of_take is_digit w.result rest dr) in
    let lk : length kept ≡ w.result = rw u.ensures (length-take-le w.result rest w.ensures.1) in
    let vi : value (a.whole.now ++ x) ≡ m.result = omega arith in
    let vf : value rest ≡ f.result = small_value rest f.result dr v-small f.ensures in
    let vt : value kept ≡ t.result = small_value kept t.result dk (omega arith) t.ensures in
    simp (
      le-ltb max_digits (significant (a.whole.now ++ x)) (within_digits (a.whole.now ++ x) d (omega arith)),
      ← r.ensures,
      le-ltb max_places (length rest) v-small,
      vi,
      vf,
      ← kt,
      lk,
      vt,
    )
