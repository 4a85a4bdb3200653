-- Laws of `seek`, `Least` and tests joined.
use mathlib.Core.Path.{◌≡◌, refl, sym, subst, ◌∙◌}
use mathlib.Core.Bool.{Bool, true, false, true≢false}
use mathlib.Core.Logic.{◌⊎◌, ⊎_elim, inl, inr}
use Prim.Native.Nat.{ℕ, zero, suc, ◌+◌, ◌≤◌, ◌<◌, min}
use native.Mathlib.Omega.{arith}
use native.Mathlib.Decide.{dec_lt}
use Rattle.check_laws.specs.Seek.{seek, Least}
use Rattle.decimal.specs.Choice.{both, either}

-- two numbers in order, or the other way round
pub split : (a b : ℕ) → (a < b) ⊎ (b ≤ a)
split a b = elim (dec_lt a b) [ yes h ↦ inl h | no h ↦ inr (omega arith) ]

absurd_bool : {b : Bool} → b ≡ true → b ≡ false → ⊥
absurd_bool p q = true≢false (sym p ∙ q)

-- there is one least number at most
pub least_one : {P : ℕ → Bool} {lo hi r s : ℕ} → Least P lo hi r → Least P lo hi s → r ≡ s
least_one {P} {lo} {hi} {r} {s} a b =
    ⊎_elim (λ h. absurd (absurd_bool (a.hit (omega (arith, b.high))) (b.none r a.low h)))
    (λ h. ⊎_elim (λ k. absurd (absurd_bool (b.hit (omega (arith, a.high))) (a.none s b.low k))) (λ k. omega arith) (split s r))
    (split r s)

step : (P : ℕ → Bool) (lo hi r : ℕ) → P lo ≡ false → lo < hi → Least P (suc lo) hi r → Least P lo hi r
step P lo hi r f h l = record {
  low = omega (arith, l.low);
  high = l.high;
  none = λ j a b. ⊎_elim (λ k. l.none j k b) (λ k. subst (λ (x : ℕ). P x ≡ false) (omega arith) f) (split lo j);
  hit = l.hit;
}

pub seek_least : (P : ℕ → Bool) (n k : ℕ) → Least P k (k + n) (seek P n k)
unfolding seek
seek_least P zero k = record { low = omega arith; high = omega arith; none = λ j a b. absurd (omega arith); hit = λ h. absurd (omega arith) }
seek_least P (suc n) k = go (P k) refl (seek_least P n (suc k))
  where
    go : (b : Bool) → P k ≡ b → Least P (suc k) (suc k + n) (seek P n (suc k)) → Least P k (k + suc n) (elim b [ true ↦ k | false ↦ seek P n (suc k) ])
    go true e l = record { low = omega arith; high = omega arith; none = λ j a b. absurd (omega arith); hit = λ _. e }
    go false e l = subst (λ (x : ℕ). Least P k x (seek P n (suc k))) (omega arith) (step P k (suc k + n) _ e (omega arith) l)

-- the bounds of a search that is at its end
pub least_start : (P : ℕ → Bool) (lo hi : ℕ) → lo ≤ hi → P lo ≡ true → Least P lo hi lo
least_start P lo hi h e = record { low = omega arith; high = h; none = λ j a b. absurd (omega arith); hit = λ _. e }

pub least_none : (P : ℕ → Bool) (lo hi : ℕ) → lo ≤ hi → ((j : ℕ) → lo ≤ j → j < hi → P j ≡ false) → Least P lo hi hi
least_none P lo hi h n = record { low = h; high = omega arith; none = n; hit = λ k. absurd (omega arith) }

-- what fails from lo to mid can be passed over
pub least_after : {P : ℕ → Bool} {lo mid hi r : ℕ} → lo ≤ mid → ((j : ℕ) → lo ≤ j → j < mid → P j ≡ false) → Least P mid hi r → Least P lo hi r
least_after {P} {lo} {mid} {hi} {r} h f l = record {
  low = omega (arith, l.low);
  high = l.high;
  none = λ j a b. ⊎_elim (λ k. f j a k) (λ k. l.none j k b) (split j mid);
  hit = l.hit;
}

-- a search that ends early, and past whose end nothing passes
pub least_widen : {P : ℕ → Bool} {lo mid hi r : ℕ} → mid ≤ hi → r < mid → Least P lo mid r → Least P lo hi r
least_widen {P} {lo} {mid} {hi} {r} h k l = record { low = l.low; high = omega arith; none = l.none; hit = λ _. l.hit k }

-- Bool
pub and_false_left : {a : Bool} (b : Bool) → a ≡ false → both a b ≡ false
and_false_left b e = rw e

pub and_false_right : (a : Bool) {b : Bool} → b ≡ false → both a b ≡ false
and_false_right true e = e
and_false_right false e = refl

pub and_true : {a b : Bool} → a ≡ true → b ≡ true → both a b ≡ true
and_true e f = rw (e, f)

pub or_false : {a b : Bool} → a ≡ false → b ≡ false → either a b ≡ false
or_false e f = rw (e, f)

pub or_true_left : {a : Bool} (b : Bool) → a ≡ true → either a b ≡ true
or_true_left b e = rw e

pub or_true_right : (a : Bool) {b : Bool} → b ≡ true → either a b ≡ true
or_true_right true e = refl
or_true_right false e = e

-- either test: the lesser of the two
pub least_or : {P Q : ℕ → Bool} {lo hi r s : ℕ} → Least P lo hi r → Least Q lo hi s → Least (λ x. either (P x) (Q x)) lo hi (min r s)
least_or {P} {Q} {lo} {hi} {r} {s} a b = record {
  low = omega (arith, a.low, b.low);
  high = omega (arith, a.high);
  none = λ j l h. or_false (a.none j l (omega arith)) (b.none j l (omega arith));
  hit = λ h. ⊎_elim
      (λ k. let e : r ≡ min r s = omega arith in or_true_left (Q (min r s)) (subst (λ (x : ℕ). P x ≡ true) e (a.hit (omega arith))))
      (λ k. let e : s ≡ min r s = omega arith in or_true_right (P (min r s)) (subst (λ (x : ℕ). Q x ≡ true) e (b.hit (omega arith))))
      (split r s);
}
