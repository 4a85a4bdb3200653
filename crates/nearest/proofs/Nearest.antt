-- Theorems of rounding, over every step: the number of steps is the nearest with ties to even, and there is only one such.
use mathlib.Core.Path.{◌≡◌, refl, sym, ap, ◌∙◌}
use Prim.Native.Nat.{ℕ, ◌+◌, ◌*◌, ◌/◌, ◌%◌, ◌^◌, ◌≤◌, ◌<◌}
use native.Mathlib.Omega.{arith}
use native.Mathlib.Nat.{add-zero, div-add-mod', mod-lt, mul-le-mul_right, mul-le-mul}
use native.Mathlib.Decide.{dec_le, ℕ_discrete}
use borrow.Author.Tests.{lt-ltb, le-ltb}
use Rattle.decimal.proofs.Values.{power_pos}
use Rattle.nearest.specs.Nearest.{apart, NearestEven, steps_of, exact, units_of, Permitted}

-- by cases: at most, or more
pub by_le : {P : Type 0} (a b : ℕ) → (a ≤ b → P) → (b < a → P) → P
by_le {P} a b f g = go (dec_le a b)
  where
    go : Dec (a ≤ b) → P
    go (yes h) = f h
    go (no n) = g (omega arith)

-- rounding
module _ (s q r : ℕ) (h : r < s) where
  pub round_down : 2 * r < s → NearestEven (q * s + r) s q
  round_down k =
      record {
        closest = λ j. by_le j q (λ a. omega (arith, mul-le-mul_right s a)) (λ a. omega (arith, mul-le-mul_right s a));
        even = λ j n e. by_le j q
            (λ a. let b : j + 1 ≤ q = omega arith in omega (arith, mul-le-mul_right s b))
            (λ a. omega (arith, mul-le-mul_right s a));
      }

  pub round_up : s < 2 * r → NearestEven (q * s + r) s (q + 1)
  round_up k =
      record {
        closest = λ j. by_le j q (λ a. omega (arith, mul-le-mul_right s a)) (λ a. omega (arith, mul-le-mul_right s a));
        even = λ j n e. by_le j q
            (λ a. omega (arith, mul-le-mul_right s a))
            (λ a. let b : q + 2 ≤ j = omega arith in omega (arith, mul-le-mul_right s b));
      }

  pub round_tie : 2 * r ≡ s → NearestEven (q * s + r) s (q + q % 2)
  round_tie k =
      record {
        closest = λ j. by_le (q % 2) 0
            (λ z. let e : q + q % 2 ≡ q = omega arith in rw e
            (by_le j q (λ a. omega (arith, mul-le-mul_right s a)) (λ a. omega (arith, mul-le-mul_right s a))))
            (λ z. let e : q + q % 2 ≡ q + 1 = omega arith in rw e
            (by_le j q (λ a. omega (arith, mul-le-mul_right s a)) (λ a. omega (arith, mul-le-mul_right s a))));
        even = λ j n e. omega arith;
      }

-- there is only one nearest multiple, ties to even
pub only : (n s k m : ℕ) → 0 < s → NearestEven n s k → NearestEven n s m → k ≡ m
only n s k m h a b = go (ℕ_discrete k m)
  where
    go : Dec (k ≡ m) → k ≡ m
    go (yes e) = e
    go (no e) =
        let same : apart n (k * s) ≡ apart n (m * s) = omega (arith, a.closest m, b.closest k) in
        let ek : k % 2 ≡ 0 = a.even m (λ f. e (sym f)) same in
        let em : m % 2 ≡ 0 = b.even k e (sym same) in
        by_le k m
        (λ l. let two : k + 2 ≤ m = omega arith in
        omega (arith, mul-le-mul_right s two, a.closest (k + 1)))
        (λ l. let two : m + 2 ≤ k = omega arith in
        omega (arith, mul-le-mul_right s two, b.closest (m + 1)))

-- the number of steps is the nearest
pub nearest : (step n : ℕ) → 0 < step → NearestEven n step (steps_of step n)
nearest step n h =
    let q = n / step in
    let r = n % step in
    let l : r < step = mod-lt n h in
    let e = div-add-mod' n step in
    by_le (2 * r + 1) step
    (λ a. rw (lt-ltb (2 * r) step (omega arith), add-zero q) (rw e at (round_down step q r l (omega arith))))
    (λ a. by_le (2 * r) step
    (λ b. rw (le-ltb (2 * r) step (omega arith), le-ltb step (2 * r) (omega arith)) (rw e at (round_tie step q r l (omega arith))))
    (λ b. rw (le-ltb (2 * r) step (omega arith), lt-ltb step (2 * r) (omega arith)) (rw e at (round_up step q r l (omega arith)))))

-- the rounded value is permitted
pub units_permitted : (step factor most i v f : ℕ) → 0 < step → Permitted step factor most i v f (units_of step factor most i v f)
units_permitted step factor most i v f h =
    record {
      multiple = steps_of (step * 10 ^ v) (exact factor most i v f);
      is_multiple = refl;
      nearest_even = nearest (step * 10 ^ v) (exact factor most i v f) (scaled_pos step v h);
    }
  where
    scaled_pos : (step v : ℕ) → 0 < step → 0 < step * 10 ^ v
    scaled_pos s w l = let p : 1 * 1 ≤ s * 10 ^ w = mul-le-mul l (power_pos w) in omega arith

-- there is only one such value
pub permitted_only : (step factor most i v f a b : ℕ) → 0 < step → Permitted step factor most i v f a → Permitted step factor most i v f b → a ≡ b
permitted_only step factor most i v f a b h x y =
    let p : 1 * 1 ≤ step * 10 ^ v = mul-le-mul h (power_pos v) in
    let e = only (exact factor most i v f) (step * 10 ^ v) x.multiple y.multiple (omega arith) x.nearest_even y.nearest_even in
    x.is_multiple ∙ ap (λ (k : ℕ). k * step) e ∙ sym y.is_multiple
