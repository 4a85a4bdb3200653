-- Laws of definitions by tests.
use mathlib.Core.Path.{◌≡◌, refl, sym, ◌∙◌}
use mathlib.Core.Bool.{Bool, true, false}
use Prim.Native.Nat.{ℕ}
use lib.Dec.{eqb, ltb}
use borrow.Author.Tests.{eq-eqb, ne_eqb, eqb-true, eqb-false, lt-ltb, le-ltb, ltb-true, ltb-false}
use Prim.Native.Nat.{◌<◌, ◌≤◌}
use native.Mathlib.Omega.{arith}
use Rattle.std.specs.Prelude.{if◌then◌else◌}
use Rattle.decimal.specs.Choice.{both, either}

-- what holds of both branches, each where its test says so, holds of the choice
pub choice : {A : Type 0} (P : A → Type 0) (b : Bool) {x y : A} → (b ≡ true → P x) → (b ≡ false → P y) → P (if b then x else y)
choice P true f g = f refl
choice P false f g = g refl

-- and what relates both branches of two choices by one test relates the choices
pub choices : {A : Type 0} (R : A → A → Type 0) (b : Bool) {x y x' y' : A} → (b ≡ true → R x x') → (b ≡ false → R y y')
    → R (if b then x else y) (if b then x' else y')
choices R true f g = f refl
choices R false f g = g refl

-- a test either holds or fails
pub tested : {A : Type 0} (b : Bool) → (b ≡ true → A) → (b ≡ false → A) → A
tested true f g = f refl
tested false f g = g refl

-- From 0 ≡ 1 anything follows: `never (cc)` rules out a case in which two different constructors are said to be equal.
pub never : {A : Type 0} → ◌≡◌ {A = ℕ} 0 1 → A
never e = absurd (omega arith)

-- a test does not both hold and fail
pub not_both : {A : Type 0} {b : Bool} → b ≡ true → b ≡ false → A
not_both {A} {b} t f = never (differ (sym t ∙ f))
  where
    differ : true ≡ false → ◌≡◌ {A = ℕ} 0 1
    differ e = cc

-- tests joined, taken apart and put together
pub both_true : (a b : Bool) → both a b ≡ true → (a ≡ true) × (b ≡ true)
both_true true b e = (refl, e)
both_true false b e = not_both e refl

pub both_in : {a b : Bool} → a ≡ true → b ≡ true → both a b ≡ true
both_in e f = rw (e, f)

pub both_false : (a : Bool) → both a false ≡ false
both_false true = refl
both_false false = refl

pub both_one : (a : Bool) → both a true ≡ a
both_one true = refl
both_one false = refl

pub either_false : (a b : Bool) → either a b ≡ false → (a ≡ false) × (b ≡ false)
either_false true b e = not_both refl e
either_false false b e = (refl, e)

-- two tests that say the same are equal
pub eqb_same : (a b c d : ℕ) → (a ≡ b → c ≡ d) → (c ≡ d → a ≡ b) → eqb a b ≡ eqb c d
eqb_same a b c d to back =
    tested (eqb a b) (λ e. rw e (sym (eq-eqb c d (to (eqb-true a b e))))) (λ e. rw e (sym (ne_eqb c d (λ k. eqb-false a b e (back k)))))

pub ltb_same : (a b c d : ℕ) → (a < b → c < d) → (c < d → a < b) → ltb a b ≡ ltb c d
ltb_same a b c d to back =
    tested (ltb a b) (λ e. rw e (sym (lt-ltb c d (to (ltb-true a b e)))))
    (λ e. rw e (sym (le-ltb c d (other (ltb-false a b e)))))
  where
    other : b ≤ a → d ≤ c
    other h = tested (ltb c d) (λ e. absurd (no (back (ltb-true c d e)))) (λ e. ltb-false c d e)
      where
        no : a < b → ⊥
        no k = omega arith
