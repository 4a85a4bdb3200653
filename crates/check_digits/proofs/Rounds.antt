-- Last digits as bits: those of a range, those that a range spares, and those of the ranges of a relation.
use mathlib.Core.Path.{◌≡◌, refl, sym, ap, ap₂, ◌∙◌, fun_ext}
use mathlib.Core.Bool.{Bool, true, false, not}
use mathlib.Core.List.{List, [], ◌∷◌, ◌++◌}
use mathlib.Core.Logic.{◌⊎◌, ⊎_elim, inl, inr}
use Prim.Native.Nat.{ℕ, zero, suc, ◌+◌, ◌-◌, ◌*◌, ◌/◌, ◌%◌, ◌^◌, ◌≤◌, ◌<◌}
use native.Mathlib.Omega.{arith}
use lib.Bits.{bit_and, bit_or}
use lib.Dec.{eqb, leb, ltb}
use borrow.Author.Tests.{eqb-true, eq-eqb, ne_eqb, le-leb, lt-leb, lt-ltb, le-ltb}
use Rattle.decimal.specs.Choice.{both}
use Rattle.decimal.specs.Lists.{all, any}
use Rattle.decimal.proofs.Choices.{both_true}
use Rattle.pack_rules.specs.Syntax.{Range, Relation}
use Rattle.pack_rules.specs.Stretch.{stretch, range_at, ranges_in}
use Rattle.pack_rules.proofs.Stretches.{stretch_nil, stretch_snoc, stretch_same}
use Rattle.select.specs.Select.{mask_of}
use Rattle.check_laws.proofs.Seeking.{split, and_true, or_true_left, or_true_right, and_false_right}
use Rattle.check_laws.specs.Profile.{values_of, round, reaches, spares, ends_in}
use Rattle.check_laws.proofs.Bits.{bits_and, bits_or}
use Rattle.check_relation.proofs.Sweeping.{any_snoc, all_snoc}

-- ---- digits in a row

-- as two to these powers, with what is above 9 put down by 10
abbrev folded : ℕ → ℕ → ℕ
folded u n = (2 ^ (u + n + 1) - 2 ^ u) % 1024 + (2 ^ (u + n + 1) - 2 ^ u) / 1024

-- a test of all numbers below n
below : (ℕ → Bool) → ℕ → Bool
below f zero = true
below f (suc n) = both (f n) (below f n)

below_each : (f : ℕ → Bool) (n : ℕ) → below f n ≡ true → (k : ℕ) → k < n → f k ≡ true
unfolding below
below_each f zero h k l = absurd (omega arith)
below_each f (suc n) h k l =
    let b = both_true (f n) (below f n) h in
    ⊎_elim (λ z. below_each f n b.1 k z) (λ z. ap f (let y : k ≡ n = omega arith in y) ∙ b.0) (split k n)

right : ℕ → Bool
right k = eqb (folded (k / 10) (k % 10)) (values_of (round (k / 10) (k / 10 + k % 10)) 10)

all_right : below right 100 ≡ true
unfolding below right mask_of stretch
all_right = refl

pub in_a_row : (u n : ℕ) → u < 10 → n < 10 → folded u n ≡ values_of (round u (u + n)) 10
unfolding right
in_a_row u n h l =
    let a : (10 * u + n) / 10 ≡ u = omega arith in
    let b : (10 * u + n) % 10 ≡ n = omega arith in
    let t = below_each right 100 all_right (10 * u + n) (omega arith) in
    eqb-true (folded u n) (values_of (round u (u + n)) 10) (rw (a, b) at t)

-- ---- one range

pub each_digit : 1023 ≡ values_of (λ (x : ℕ). true) 10
unfolding mask_of stretch
each_digit = refl

pub no_digit : 0 ≡ values_of (λ (x : ℕ). false) 10
unfolding mask_of stretch
no_digit = refl

-- a test that every digit passes
pub every_digit : (P : ℕ → Bool) → ((d : ℕ) → d < 10 → true ≡ P d) → 1023 ≡ values_of P 10
every_digit P f = each_digit ∙ ap mask_of (stretch_same {g = λ (x : ℕ). true} {h = P} 0 10 (λ d l. f d (omega arith)))

module _ (a b : ℕ) where
  abbrev span : Range
  span = record { low = a; high = b }

  -- ten numbers or more: every digit
  pub reached_all : 9 ≤ b - a → 1023 ≡ values_of (λ (d : ℕ). reaches d span) 10
  reached_all h =
      every_digit (λ (d : ℕ). reaches d span)
      (λ d l.
      let u = a % 10 in
      let w = a % 10 + (b - a) in
      sym (⊎_elim (λ z. or_true_right (both (leb u d) (leb d w)) (le-leb (d + 10) w (omega arith)))
      (λ z. or_true_left (leb (d + 10) w) (and_true (le-leb u d z) (le-leb d w (omega arith)))) (split d u)))

  pub reached_few : (u n r : ℕ) → u ≡ a % 10 → n ≡ b - a → r ≡ values_of (round u (u + n)) 10 → r ≡ values_of (λ (d : ℕ). reaches d span) 10
  reached_few u n r e f g = g ∙ ap₂ (λ (x y : ℕ). values_of (round x (x + y)) 10) e f

  -- whether it spares a digit
  module _ (m d : ℕ) where
    pub spared_before : d < a → true ≡ spares m d span
    spared_before h = rw (lt-leb a d h)

    pub spared_from : a ≤ d → ltb (b + 10) (m + d) ≡ spares m d span
    spared_from h = rw (le-leb a d h) (⊎_elim (λ z. rw (lt-ltb (b + 10) (m + d) z, lt-leb (m + d) (b + 10) z)) (λ z. rw (le-ltb (b + 10) (m + d) z, le-leb (m + d) (b + 10) z)) (split (b + 10) (m + d)))

  -- it ends before the last ten remainders
  pub spared_all : (m : ℕ) → b + 10 < m → 1023 ≡ values_of (λ (d : ℕ). spares m d span) 10
  spared_all m h = every_digit (λ (d : ℕ). spares m d span) (λ d l. sym (ap not (and_false_right (leb a d) (lt-leb (m + d) (b + 10) (omega arith)))))

-- ---- the ranges from a place on, one after the other

module _ (low high : List ℕ) (from : ℕ) where
  upto : (k : ℕ) → from ≤ k → stretch (range_at low high) from (k + 1 - from) ≡ ranges_in low high from k ++ (range_at low high k ∷ [])
  upto k h =
      ap (stretch (range_at low high) from) (let z : k + 1 - from ≡ k - from + 1 = omega arith in z)
      ∙ stretch_snoc (range_at low high) from (k - from)
      ∙ ap (λ (x : ℕ). ranges_in low high from k ++ (range_at low high x ∷ [])) (let z : from + (k - from) ≡ k = omega arith in z)

  -- the end: past the last range, or there is none
  ended : (k to : ℕ) → from ≤ k → to ≤ k → (k ≤ to) ⊎ (k ≡ from) → ranges_in low high from k ≡ ranges_in low high from to
  ended k to h l (inl z) = ap (ranges_in low high from) (let y : k ≡ to = omega arith in y)
  ended k to h l (inr z) = stretch_nil (range_at low high) from k (omega arith) ∙ sym (stretch_nil (range_at low high) from to (omega arith))

  -- P of a digit and of the ranges before k, as bits
  pub record Gone (P : ℕ → List Range → Bool) (to k mask : ℕ) : Type 0 where
    pub order : from ≤ k
    pub within : (k ≤ to) ⊎ (k ≡ from)
    pub bits : mask ≡ values_of (λ (d : ℕ). P d (ranges_in low high from k)) 10

  pub gone_none : (P : ℕ → List Range → Bool) (to mask : ℕ) → mask ≡ values_of (λ (d : ℕ). P d []) 10 → Gone P to from mask
  gone_none P to mask e =
      record { order = omega arith; within = inr refl; bits = e ∙ ap (λ (l : List Range). values_of (λ (d : ℕ). P d l) 10) (sym (stretch_nil (range_at low high) from from (omega arith))) }

  pub gone_any : (to k mask m r : ℕ) → k < to → Gone (λ (d : ℕ). any (reaches d)) to k mask → m ≡ values_of (λ (d : ℕ). reaches d (range_at low high k)) 10 → r ≡ bit_or mask m → Gone (λ (d : ℕ). any (reaches d)) to (k + 1) r
  gone_any to k mask m r h g e f =
      record {
        order = omega (arith, g.order);
        within = inl (omega arith);
        bits =
            f ∙ ap₂ bit_or g.bits e
            ∙ bits_or (λ (d : ℕ). any (reaches d) (ranges_in low high from k)) (λ (d : ℕ). reaches d (range_at low high k)) 0 10
            ∙ ap (λ (p : ℕ → Bool). values_of p 10) (fun_ext (λ d. sym (ap (any (reaches d)) (upto k g.order) ∙ any_snoc (reaches d) (ranges_in low high from k) (range_at low high k))));
      }

  pub gone_all : (n to k mask m r : ℕ) → k < to → Gone (λ (d : ℕ). all (spares n d)) to k mask → m ≡ values_of (λ (d : ℕ). spares n d (range_at low high k)) 10 → r ≡ bit_and mask m → Gone (λ (d : ℕ). all (spares n d)) to (k + 1) r
  gone_all n to k mask m r h g e f =
      record {
        order = omega (arith, g.order);
        within = inl (omega arith);
        bits =
            f ∙ ap₂ bit_and g.bits e
            ∙ bits_and (λ (d : ℕ). all (spares n d) (ranges_in low high from k)) (λ (d : ℕ). spares n d (range_at low high k)) 0 10
            ∙ ap (λ (p : ℕ → Bool). values_of p 10) (fun_ext (λ d. sym (ap (all (spares n d)) (upto k g.order) ∙ all_snoc (spares n d) (ranges_in low high from k) (range_at low high k))));
      }

  pub gone_ended : (P : ℕ → List Range → Bool) (to k mask : ℕ) → to ≤ k → Gone P to k mask → mask ≡ values_of (λ (d : ℕ). P d (ranges_in low high from to)) 10
  gone_ended P to k mask h g = g.bits ∙ ap (λ (l : List Range). values_of (λ (d : ℕ). P d l) 10) (ended k to g.order h g.within)

-- ---- a relation

module _ (r : Relation) where
  pub ends_any_digit : 0 < r.modulus % 10 → 1023 ≡ values_of (λ (d : ℕ). ends_in d r) 10
  unfolding ends_in
  ends_any_digit h = every_digit (λ (d : ℕ). ends_in d r) (λ d l. rw (ne_eqb (r.modulus % 10) 0 (λ z. omega arith)))

  module _ (e : r.modulus % 10 ≡ 0) where
    pub ends_reached : (m : ℕ) → r.negated ≡ false → m ≡ values_of (λ (d : ℕ). any (reaches d) r.ranges) 10 → m ≡ values_of (λ (d : ℕ). ends_in d r) 10
    unfolding ends_in
    ends_reached m n f = f ∙ ap (λ (p : ℕ → Bool). values_of p 10) (fun_ext (λ d. rw (eq-eqb (r.modulus % 10) 0 e, n)))

    pub ends_endless : r.negated ≡ true → r.modulus ≡ 0 → 1023 ≡ values_of (λ (d : ℕ). ends_in d r) 10
    unfolding ends_in
    ends_endless n z = every_digit (λ (d : ℕ). ends_in d r) (λ d l. rw (eq-eqb (r.modulus % 10) 0 e, n, eq-eqb r.modulus 0 z))

    pub ends_spared : (m : ℕ) → r.negated ≡ true → (r.modulus ≡ 0 → ⊥) → m ≡ values_of (λ (d : ℕ). all (spares r.modulus d) r.ranges) 10 → m ≡ values_of (λ (d : ℕ). ends_in d r) 10
    unfolding ends_in
    ends_spared m n z f = f ∙ ap (λ (p : ℕ → Bool). values_of p 10) (fun_ext (λ d. rw (eq-eqb (r.modulus % 10) 0 e, n, ne_eqb r.modulus 0 z)))
