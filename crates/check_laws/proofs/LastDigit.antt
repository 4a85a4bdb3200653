-- The last digit of i: a number that passes ends in a digit that each relation leaves. Where none is left, no number passes.
use mathlib.Core.Path.{◌≡◌, refl, sym, ap, subst, ◌∙◌}
use mathlib.Core.Bool.{Bool, true, false, not}
use mathlib.Core.List.{List, [], ◌∷◌}
use mathlib.Core.Logic.{⊎_elim}
use Prim.Native.Nat.{ℕ, ◌+◌, ◌-◌, ◌*◌, ◌/◌, ◌%◌, ◌^◌, ◌<◌}
use native.Mathlib.Omega.{arith}
use native.Mathlib.Nat.{mod-lt, mod-mod_of_dvd, dvd_of_mod-eq-zero, zero-div}
use lib.Dec.{eqb, leb}
use borrow.Author.Tests.{leb-true, le-leb, eqb-true, eqb-false}
use Rattle.std.specs.Prelude.{if◌then◌else◌}
use Rattle.decimal.specs.Choice.{both, either}
use Rattle.decimal.proofs.Choices.{tested, not_both, both_true}
use Rattle.decimal.specs.Lists.{all, any}
use Rattle.pack_rules.specs.Syntax.{Range, Relation}
use Rattle.meaning.specs.Meaning.{in_range}
use Rattle.select.specs.Select.{bit}
use Rattle.check_laws.proofs.Seeking.{split, and_true, or_true_left, or_true_right}
use Rattle.check_laws.specs.Fast.{listed, test, asked, factor, passes, passes_all, ends, query_i}
use Rattle.check_laws.specs.Floors.{Under, raised}
use Rattle.check_laws.specs.Profile.{marks, reaches, spares, ends_in, last_of, profile_of, whole_digits, part_digits}
use Rattle.check_laws.specs.declared.Floors.{Floors}
use Rattle.check_laws.proofs.Bits.{bit_at}
use Rattle.check_laws.proofs.Profiles.{part_whole, part_part}

-- ---- ranges

module _ (y : ℕ) (r : Range) where
  -- a number in a range ends in a digit that the range reaches
  in_reaches : in_range y r ≡ true → reaches (y % 10) r ≡ true
  in_reaches h =
      let k = both_true (leb r.low y) (leb y r.high) h in
      let a = leb-true r.low y k.0 in
      let b = leb-true y r.high k.1 in
      let u = r.low % 10 in
      let w = r.low % 10 + (r.high - r.low) in
      let d = y % 10 in
      ⊎_elim (λ z. or_true_right (both (leb u d) (leb d w)) (le-leb (d + 10) w (omega arith)))
      (λ z. or_true_left (leb (d + 10) w) (and_true (le-leb u d z) (le-leb d w (omega arith)))) (split d u)

  -- a remainder outside a range is one that the range spares
  out_spares : (m : ℕ) → m % 10 ≡ 0 → y < m → in_range y r ≡ false → spares m (y % 10) r ≡ true
  out_spares m e l h =
      tested (both (leb r.low (y % 10)) (leb (m + y % 10) (r.high + 10)))
      (λ t.
      let k = both_true (leb r.low (y % 10)) (leb (m + y % 10) (r.high + 10)) t in
      let a = leb-true r.low (y % 10) k.0 in
      let b = leb-true (m + y % 10) (r.high + 10) k.1 in
      not_both (and_true (le-leb r.low y (omega arith)) (le-leb y r.high (omega arith))) h)
      (λ f. rw f)

-- ---- relations

any_some : {A : Type 0} (p q : A → Bool) (l : List A) → ((x : A) → p x ≡ true → q x ≡ true) → any p l ≡ true → any q l ≡ true
any_some p q [] f h = h
any_some {A} p q (x ∷ l) f h =
    tested (p x)
    (λ t. or_true_left (any q l) (f x t))
    (λ t. or_true_right (q x) (any_some p q l f (sym (ap (λ (b : Bool). either b (any p l)) t) ∙ h)))

none_all : {A : Type 0} (p q : A → Bool) (l : List A) → ((x : A) → p x ≡ false → q x ≡ true) → not (any p l) ≡ true → all q l ≡ true
none_all p q [] f h = refl
none_all {A} p q (x ∷ l) f h =
    tested (p x)
    (λ t. not_both h (ap (λ (b : Bool). not (either b (any p l))) t))
    (λ t. and_true (f x t) (none_all p q l f (sym (ap (λ (b : Bool). not (either b (any p l))) t) ∙ h)))

-- a remainder by m ends as the number does, where m does in 0
ends_alike : (x m : ℕ) → m % 10 ≡ 0 → x % m % 10 ≡ x % 10
ends_alike x m e = mod-mod_of_dvd 10 x (dvd_of_mod-eq-zero 10 e)

-- what meets a relation ends in a digit that it leaves
module _ (r : Relation) (x : ℕ) where
  equal_ends : r.modulus % 10 ≡ 0 → any (in_range (x % r.modulus)) r.ranges ≡ true → any (reaches (x % 10)) r.ranges ≡ true
  equal_ends e h =
      any_some (in_range (x % r.modulus)) (reaches (x % 10)) r.ranges
      (λ s t. subst (λ (d : ℕ). reaches d s ≡ true) (ends_alike x r.modulus e) (in_reaches (x % r.modulus) s t)) h

  unequal_ends : r.modulus % 10 ≡ 0 → (r.modulus ≡ 0 → ⊥) → not (any (in_range (x % r.modulus)) r.ranges) ≡ true → all (spares r.modulus (x % 10)) r.ranges ≡ true
  unequal_ends e n h =
      none_all (in_range (x % r.modulus)) (spares r.modulus (x % 10)) r.ranges
      (λ s t. subst (λ (d : ℕ). spares r.modulus d s ≡ true) (ends_alike x r.modulus e) (out_spares (x % r.modulus) s r.modulus e (mod-lt x (omega arith)) t)) h

  pub ends_meet : test r x ≡ true → ends_in (x % 10) r ≡ true
  unfolding test listed ends_in
  ends_meet h =
      tested (eqb (r.modulus % 10) 0)
      (λ t.
      let e = eqb-true (r.modulus % 10) 0 t in
      tested r.negated
      (λ n.
      tested (eqb r.modulus 0)
      (λ z. rw (t, n, z))
      (λ z. rw (t, n, z) (unequal_ends e (eqb-false r.modulus 0 z) (rw n at h))))
      (λ n. rw (t, n) (equal_ends e (rw n at h))))
      (λ t. rw t)

  -- a factor is 1 where the relation is asked
  times : (whole : Bool) → asked (query_i whole) r ≡ true → x * factor (query_i whole) r.operand ≡ x
  unfolding factor
  times whole t = one whole (eqb r.operand 110) (eqb r.operand 105) (eqb r.operand 102) (eqb r.operand 116) t
    where
      one : (w a b c d : Bool) → not (eqb (if a then if w then 1 else 0 else if b then 1 else if c then 0 else if d then 0 else 0) 0) ≡ true
          → x * (if a then if w then 1 else 0 else if b then 1 else if c then 0 else if d then 0 else 0) ≡ x
      one true true b c d k = omega arith
      one false true b c d k = not_both k refl
      one w false true c d k = omega arith
      one w false false true d k = not_both k refl
      one w false false false true k = not_both k refl
      one w false false false false k = not_both k refl

  last_meets : (whole : Bool) → passes (query_i whole) r x ≡ true → last_of whole (x % 10) r ≡ true
  unfolding passes last_of
  last_meets whole h =
      tested (asked (query_i whole) r)
      (λ t. rw t (ends_meet (subst (λ (y : ℕ). test r y ≡ true) (times whole t) (rw t at h))))
      (λ t. rw t)

-- ---- clauses

last_meet : (whole : Bool) (x : ℕ) (c : List Relation) → all (λ (r : Relation). passes (query_i whole) r x) c ≡ true → all (last_of whole (x % 10)) c ≡ true
last_meet whole x [] h = refl
last_meet whole x (r ∷ c) h =
    let k = both_true (passes (query_i whole) r x) (all (λ (r : Relation). passes (query_i whole) r x) c) h in
    and_true (last_meets r x whole k.0) (last_meet whole x c k.1)

-- where no digit is left, nothing passes
pub none_ends : (whole : Bool) (c : List Relation) → marks (last_of whole) 10 c ≡ 0 → (x : ℕ) → passes_all (query_i whole) c x ≡ false
unfolding passes_all ends
none_ends whole c z x =
    tested (all (λ (r : Relation). passes (query_i whole) r x) c)
    (λ t. not_both (last_meet whole x c t) (none (all (last_of whole (x % 10)) c) bare))
    (λ t. rw t)
  where
    none : (b : Bool) → 0 ≡ bit b → b ≡ false
    none true e = absurd (omega arith)
    none false e = refl

    bare : 0 ≡ bit (all (last_of whole (x % 10)) c)
    bare =
        let d = x % 10 in
        let l : 0 + d ≡ d = omega arith in
        let zero : 0 / 2 ^ d % 2 ≡ 0 = ap (λ (y : ℕ). y % 2) (zero-div (2 ^ d)) in
        sym zero ∙ ap (λ (y : ℕ). y / 2 ^ d % 2) (sym z) ∙ bit_at (λ (k : ℕ). all (last_of whole k) c) 0 10 d (omega arith) ∙ ap (λ (k : ℕ). bit (all (last_of whole k) c)) l

-- floors that are raised where no digit is left
pub raised_under : (c : List Relation) (p : ℕ) (l : Floors) → p ≡ profile_of c → Under c l → Under c (raised p l)
raised_under c p l e u =
    record {
      whole = tested (eqb (whole_digits p) 0) (λ t x h. none_ends true c (sym (part_whole c p e) ∙ eqb-true (whole_digits p) 0 t) x) (λ t x h. u.whole x (rw t at h));
      part = tested (eqb (part_digits p) 0) (λ t x h. none_ends false c (sym (part_part c p e) ∙ eqb-true (part_digits p) 0 t) x) (λ t x h. u.part x (rw t at h));
      tail = u.tail;
    }
