-- Laws of the step: kept at a bound at every byte, it is the step kept at that bound.
use mathlib.Core.Path.{◌≡◌, refl, ◌∙◌}
use mathlib.Core.Bool.{Bool, true, false}
use mathlib.Core.List.{List, [], ◌∷◌}
use Prim.Native.Nat.{ℕ, ◌+◌, ◌*◌, ◌-◌, ◌≤◌, min, max}
use native.Mathlib.Omega.{arith}
use borrow.Author.Tests.{eqb-true, eqb-false, leb-true, leb-false}
use lib.Dec.{eqb, leb}
use Rattle.std.specs.List.{fold}
use Rattle.std.specs.Prelude.{if◌then◌else◌}
use Rattle.decimal.specs.Digits.{is_digit}
use Rattle.decimal.proofs.Choices.{tested}
use Rattle.pattern_number.specs.Shape.{unit, units_from, step_of}

unit_ge : (n b : ℕ) → n ≤ unit n b
unit_ge n b = go (eqb b 35) (is_digit b)
  where
    go : (x y : Bool) → n ≤ (if x then 10 * n else if y then 10 * n + (b - 48) else n)
    go true y = omega arith
    go false true = omega arith
    go false false = omega arith

pub units_ge : (n : ℕ) (s : List ℕ) → n ≤ units_from n s
units_ge n [] = omega arith
units_ge n (b ∷ s) = omega (arith, unit_ge n b, units_ge (unit n b) s)

units_cap : (n c : ℕ) (s : List ℕ) → min (units_from (min n c) s) c ≡ min (units_from n s) c
units_cap n c s = go (leb n c) refl
  where
    go : (t : Bool) → leb n c ≡ t → min (units_from (min n c) s) c ≡ min (units_from n s) c
    go true e =
        let k : min n c ≡ n = omega (arith, leb-true n c e) in
        rw k
    go false e =
        let k : min n c ≡ c = omega (arith, leb-false n c e) in
        rw k (omega (arith, units_ge n s, units_ge c s, leb-false n c e))

-- the units of the bytes one after the other, kept at c
pub units_fold : (c n : ℕ) (s : List ℕ) → n ≤ c → fold (λ (m b : ℕ). min (unit m b) c) n s ≡ min (units_from n s) c
units_fold c n [] h = omega arith
units_fold c n (b ∷ s) h = units_fold c (min (unit n b) c) s (omega arith) ∙ units_cap (unit n b) c s

-- the step from units that are kept at a bound of at least 1
pub step_is : (s : List ℕ) (r c : ℕ) → 1 ≤ c → r ≡ min (units_from 0 s) c → max r 1 ≡ min (step_of s) c
step_is s r c h e = tested (eqb (units_from 0 s) 0) (λ k. rw k (omega (arith, eqb-true _ _ k))) (λ k. rw k (omega (arith, eqb-false _ _ k)))
