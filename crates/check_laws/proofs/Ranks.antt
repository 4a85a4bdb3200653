-- Ranks are document 01's order of the admitted numbers: each has its own, and a lower rank comes before.
use mathlib.Core.Path.{◌≡◌, sym, ap, ◌∙◌}
use mathlib.Core.Bool.{true}
use mathlib.Core.Logic.{◌⊎◌, ⊎_elim}
use Prim.Native.Nat.{ℕ, suc, ◌/◌, ◌%◌, ◌^◌, ◌≤◌, ◌<◌}
use native.Mathlib.Omega.{arith}
use lib.Dec.{eqb}
use borrow.Author.Tests.{ltb-true, lt-ltb, leb-true, le-leb, eqb-true, eqb-false}
use Rattle.decimal.proofs.Choices.{tested, both_true}
use Rattle.decimal.proofs.Values.{power_mono}
use Rattle.answer.specs.declared.Witness.{Witness}
use Rattle.number.specs.Limits.{max_digits, max_places}
use Rattle.check_laws.proofs.Seeking.{split, and_true}
use Rattle.check_laws.specs.Check.{lowest, admits, rank, ranked, ranks}
use Rattle.check_laws.specs.Claims.{IsAdmitted, Before}

low_shifted : (e i : ℕ) → lowest e ≤ i → 0 < e → 10 ^ e ≤ i
low_shifted e i h k = tested (eqb e 0) (λ z. absurd (no (eqb-true e 0 z))) (λ z. rw z at h)
  where
    no : e ≡ 0 → ⊥
    no z = omega arith

shifted_low : (e i : ℕ) → (0 < e → 10 ^ e ≤ i) → lowest e ≤ i
shifted_low e i h =
    tested (eqb e 0) (λ z. rw z (omega arith))
    (λ z. rw z (h (let n = eqb-false e 0 z in ⊎_elim (λ k. absurd (n (omega arith))) (λ k. k) (split e 1))))

-- the test is the definition
pub admitted_of : (x : Witness) → admits x ≡ true → IsAdmitted x
unfolding admits
admitted_of x h =
    let a = both_true _ _ h in
    let b = both_true _ _ a.1 in
    let c = both_true _ _ b.1 in
    let d = both_true _ _ c.1 in
    record {
      exponent = leb-true _ _ a.0;
      places = leb-true _ _ b.0;
      whole = ltb-true _ _ d.0;
      fraction = ltb-true _ _ d.1;
      shifted = low_shifted x.e x.i (leb-true _ _ c.0);
    }

pub admits_of : (x : Witness) → IsAdmitted x → admits x ≡ true
unfolding admits
admits_of x a =
    and_true (le-leb _ _ a.exponent)
    (and_true (le-leb _ _ a.places)
    (and_true (le-leb _ _ (shifted_low x.e x.i a.shifted)) (and_true (lt-ltb _ _ a.whole) (lt-ltb _ _ a.fraction))))

-- f is below the most that its place in the rank holds
narrow : (x : Witness) → IsAdmitted x → x.f.0 < 10 ^ max_places
narrow x a =
    let g : 10 ^ x.v.0 ≤ 10 ^ max_places = power_mono a.places in
    omega (arith, a.fraction)

pub ranked_rank : (x : Witness) → IsAdmitted x → ranked (rank x) ≡ x
ranked_rank x a =
    let n = narrow x a in
    let b = a.whole in
    let c = a.places in
    let p : rank x / 10 ^ max_places / 10 ^ max_digits / suc max_places ≡ x.e = omega arith in
    let q : rank x / 10 ^ max_places / 10 ^ max_digits % suc max_places ≡ x.v.0 = omega arith in
    let r : rank x / 10 ^ max_places % 10 ^ max_digits ≡ x.i = omega arith in
    let s : rank x % 10 ^ max_places ≡ x.f.0 = omega arith in
    rw (p, q, r, s)

pub rank_lt : (x : Witness) → IsAdmitted x → rank x < ranks
rank_lt x a = omega (arith, narrow x a, a.whole, a.places, a.exponent)

-- one rank, one number
pub rank_one : (x y : Witness) → IsAdmitted x → IsAdmitted y → rank x ≡ rank y → x ≡ y
rank_one x y a b e = sym (ranked_rank x a) ∙ ap ranked e ∙ ranked_rank y b

-- a lower rank comes before
pub rank_before : (x y : Witness) → IsAdmitted x → IsAdmitted y → rank x < rank y → Before x y
rank_before x y a b h =
    let n = narrow x a in
    let m = narrow y b in
    let aw = a.whole in
    let bw = b.whole in
    let ap = a.places in
    let bp = b.places in
    order x.e y.e (λ k. omega arith) (λ e.
    order x.v.0 y.v.0 (λ k. omega arith) (λ v.
    order x.i y.i (λ k. omega arith) (λ i. omega arith)))
  where
    order : {A : Type 0} (p q : ℕ) → (q < p → ⊥) → (p ≡ q → A) → (p < q) ⊎ ((p ≡ q) × A)
    order p q never f = ⊎_elim ◌⊎◌.inl (λ k. ◌⊎◌.inr (let e : p ≡ q = ⊎_elim (λ z. absurd (never z)) (λ z. omega arith) (split q p) in (e, f e))) (split p q)
