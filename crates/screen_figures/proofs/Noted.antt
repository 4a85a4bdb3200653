-- Laws of storing figures.
use mathlib.Core.Path.{◌≡◌, sym, ◌∙◌}
use mathlib.Core.List.{List, ◌∷◌, ◌++◌}
use Prim.Native.Nat.{ℕ, suc, ◌+◌, ◌-◌, ◌≤◌, ◌<◌, min}
use native.Mathlib.Omega.{arith}
use native.Mathlib.Nat.{zero-add}
use native.Mathlib.Numerals.{add-one}
use lib.ListN.{length, get_or, take, drop, set, length-take}
use lib.Dec.{ltb}
use borrow.Author.Tests.{ltb-true, ltb-false}
use lib.Seq.{sets, sets-eq, drop-cons, take_all}
use Rattle.decimal.proofs.Choices.{tested}
use Rattle.screen_figures.specs.Figures.{noted}

-- one more of the values is stored
pub again : (o values : List ℕ) (n k : ℕ) → k < n → n ≤ length values
    → sets (set o (k + 1) (get_or values k 0)) (k + 1 + 1) (take (n - (k + 1)) (drop (k + 1) values)) ≡ sets o (k + 1) (take (n - k) (drop k values))
again o values n k h l =
    let e : n - k ≡ suc (n - suc k) = omega arith in
    let d : drop k values ≡ get_or values k 0 ∷ drop (suc k) values = drop-cons values k 0 (omega arith) in
    rw (add-one k, e, d, add-one (suc k))

-- nothing is left to store
pub done : (o values : List ℕ) (n k : ℕ) → k ≤ n → n ≤ k → sets o (k + 1) (take (n - k) (drop k values)) ≡ o
done o values n k h l =
    let e : n - k ≡ 0 = omega arith in
    rw e

take_min : (k : ℕ) (s : List ℕ) → take (min k (length s)) s ≡ take k s
take_min k s =
    tested (ltb k (length s))
    (λ e.
    let h : min k (length s) ≡ k = omega (arith, ltb-true k (length s) e) in
    rw h)
    (λ e.
    let l : length s ≤ k = ltb-false k (length s) e in
    take_all (min k (length s)) s (omega arith) ∙ sym (take_all k s l))

-- the count, and then the values
pub stored : (o values : List ℕ) (count n : ℕ) → n ≡ min count (length values) → sets (set o 0 n) 1 (take n values) ≡ noted (take count values) o
stored o values count n e = rw (e, take_min count values, length-take count values)

-- in the eight entries up to seven figures stand behind their count, and behind them what stood there
pub noted_front : (figures before : List ℕ) → length before ≡ 8 → length figures ≤ 7
    → noted figures before ≡ (length figures ∷ figures) ++ drop (length (length figures ∷ figures)) before
noted_front figures before h l = sets-eq (length figures ∷ figures) before 0 (omega arith) ∙ rw zero-add
