-- What the code of a clause's least number works out: the order of spots is that of their ranks, and the kinds' ranks make the clause's.
use mathlib.Core.Path.{◌≡◌, refl, sym, ap, ap₂, subst, ◌∙◌}
use mathlib.Core.Bool.{Bool, true, false}
use mathlib.Core.List.{List}
use mathlib.Core.Logic.{⊎_elim}
use Prim.Native.Nat.{ℕ, suc, ◌+◌, ◌*◌, ◌/◌, ◌%◌, ◌^◌, ◌≤◌, ◌<◌, min}
use native.Mathlib.Omega.{arith}
use native.Mathlib.Nat.{le_of_lt, mul-le-mul_right, div-lt_iff_lt-mul, mod-lt}
use lib.Arith.{digits_lt}
use lib.Dec.{ltb}
use borrow.Author.Tests.{lt-ltb, le-ltb, le-leb, lt-leb, eq-eqb, ne_eqb, ltb-true, ltb-false}
use Rattle.std.specs.Prelude.{if◌then◌else◌}
use Rattle.decimal.proofs.Values.{power_pos}
use Rattle.answer.specs.declared.Witness.{Witness}
use Rattle.number.specs.Limits.{max_exponent, max_digits, max_places}
use Rattle.pack_rules.specs.Syntax.{Relation}
use Rattle.check_laws.proofs.Seeking.{split}
use Rattle.check_laws.specs.Check.{lowest, block, ranks}
use Rattle.check_laws.specs.Fast.{search, exponent_of, fractions, fraction_code, integer_of, placed, kind_rank, clause_rank}
use Rattle.check_laws.specs.Spots.{kind_spot, spot_rank, Proper}
use Rattle.check_laws.proofs.FastIs.{lowest_le}

pub nowhere_rank : spot_rank (record { e = suc max_exponent; v = record { 0 = 0 }; i = 0; f = record { 0 = 0 } }) ≡ ranks
unfolding spot_rank
nowhere_rank = refl

-- ---- order

-- a larger leading digit is a larger number
ahead : (c a b r s : ℕ) → a < b → r < c → a * c + r < b * c + s
ahead c a b r s h k = let g : suc a * c ≤ b * c = mul-le-mul_right c h in omega arith

within : (s : Witness) → Proper s → (s.v.0 * 10 ^ max_digits + s.i) * 10 ^ max_places + s.f.0 < block
within s p = digits_lt (digits_lt p.places p.whole) p.fraction

module _ (a b : Witness) (pa : Proper a) (pb : Proper b) where
  pub by_e : a.e < b.e → spot_rank a < spot_rank b
  unfolding spot_rank
  by_e h = ahead block a.e b.e _ _ h (within a pa)

  inner : (x y : ℕ) → a.e ≡ b.e → x < y → a.e * block + x < b.e * block + y
  inner x y e h = let g : a.e * block ≡ b.e * block = ap (λ (u : ℕ). u * block) e in omega arith

  pub by_v : a.e ≡ b.e → a.v.0 < b.v.0 → spot_rank a < spot_rank b
  unfolding spot_rank
  by_v e h = inner _ _ e (ahead (10 ^ max_places) (a.v.0 * 10 ^ max_digits + a.i) (b.v.0 * 10 ^ max_digits + b.i) a.f.0 b.f.0 (ahead (10 ^ max_digits) a.v.0 b.v.0 a.i b.i h pa.whole) pa.fraction)

  pub by_i : a.e ≡ b.e → a.v.0 ≡ b.v.0 → a.i < b.i → spot_rank a < spot_rank b
  unfolding spot_rank
  by_i e v h =
      inner _ _ e (ahead (10 ^ max_places) (a.v.0 * 10 ^ max_digits + a.i) (b.v.0 * 10 ^ max_digits + b.i) a.f.0 b.f.0
      (let g : a.v.0 * 10 ^ max_digits ≡ b.v.0 * 10 ^ max_digits = ap (λ (u : ℕ). u * 10 ^ max_digits) v in omega arith) pa.fraction)

  pub by_f : a.e ≡ b.e → a.v.0 ≡ b.v.0 → a.i ≡ b.i → a.f.0 < b.f.0 → spot_rank a < spot_rank b
  unfolding spot_rank
  by_f e v i h =
      inner _ _ e (let g : (a.v.0 * 10 ^ max_digits + a.i) * 10 ^ max_places ≡ (b.v.0 * 10 ^ max_digits + b.i) * 10 ^ max_places = ap₂ (λ (x y : ℕ). (x * 10 ^ max_digits + y) * 10 ^ max_places) v i in omega arith)

  pub all_same : a.e ≡ b.e → a.v.0 ≡ b.v.0 → a.i ≡ b.i → a.f.0 ≡ b.f.0 → spot_rank a ≡ spot_rank b
  unfolding spot_rank
  all_same e v i f = ap₂ (λ (x y : ℕ). x * block + y) e (ap₂ (λ (x y : ℕ). x * 10 ^ max_places + y) (ap₂ (λ (x y : ℕ). x * 10 ^ max_digits + y) v i) f)

module _ (a b : Witness) (pa : Proper a) (pb : Proper b) where
  -- a test of two digits that differ is that of the ranks
  decide : (x y : ℕ) → (x < y → spot_rank a < spot_rank b) → (y < x → spot_rank b < spot_rank a) → (x ≡ y → ⊥) → ltb x y ≡ ltb (spot_rank a) (spot_rank b)
  decide x y f g n =
      ⊎_elim (λ h. lt-ltb x y h ∙ sym (lt-ltb (spot_rank a) (spot_rank b) (f h)))
      (λ h. le-ltb x y h ∙ sym (le-ltb (spot_rank a) (spot_rank b) (let l : y < x = ⊎_elim (λ z. z) (λ z. absurd (n (omega arith))) (split y x) in let m = g l in omega arith)))
      (split x y)

  pub order_e : (a.e ≡ b.e → ⊥) → ltb a.e b.e ≡ ltb (spot_rank a) (spot_rank b)
  order_e n = decide a.e b.e (by_e a b pa pb) (by_e b a pb pa) n

  pub order_v : a.e ≡ b.e → (a.v.0 ≡ b.v.0 → ⊥) → ltb a.v.0 b.v.0 ≡ ltb (spot_rank a) (spot_rank b)
  order_v e n = decide a.v.0 b.v.0 (by_v a b pa pb e) (by_v b a pb pa (sym e)) n

  pub order_i : a.e ≡ b.e → a.v.0 ≡ b.v.0 → (a.i ≡ b.i → ⊥) → ltb a.i b.i ≡ ltb (spot_rank a) (spot_rank b)
  order_i e v n = decide a.i b.i (by_i a b pa pb e v) (by_i b a pb pa (sym e) (sym v)) n

  pub order_f : a.e ≡ b.e → a.v.0 ≡ b.v.0 → a.i ≡ b.i → ltb a.f.0 b.f.0 ≡ ltb (spot_rank a) (spot_rank b)
  order_f e v i =
      ⊎_elim (λ h. lt-ltb a.f.0 b.f.0 h ∙ sym (lt-ltb (spot_rank a) (spot_rank b) (by_f a b pa pb e v i h)))
      (λ h. le-ltb a.f.0 b.f.0 h ∙ sym (le-ltb (spot_rank a) (spot_rank b) (⊎_elim (λ z. let m = by_f b a pb pa (sym e) (sym v) (sym i) z in omega arith) (λ z. let m = all_same a b pa pb e v i (omega arith) in omega arith) (split b.f.0 a.f.0))))
      (split a.f.0 b.f.0)

pub first_least : (x y : ℕ) (b : Bool) → b ≡ ltb x y → b ≡ true → x ≡ min x y
first_least x y b e f = let h = ltb-true x y (sym e ∙ f) in omega arith

pub second_least : (x y : ℕ) (b : Bool) → b ≡ ltb x y → b ≡ false → y ≡ min x y
second_least x y b e f = let h = ltb-false x y (sym e ∙ f) in omega arith

-- ---- i

pub low_none : (e : ℕ) → e ≡ 0 → 0 ≡ lowest e
low_none e h = rw (eq-eqb e 0 h)

pub low_some : (e p : ℕ) → (e ≡ 0 → ⊥) → p ≡ 10 ^ e → p ≡ lowest e
low_some e p n h = rw (ne_eqb e 0 n) h

pub low_le : (e p : ℕ) → e ≤ max_exponent → p ≡ lowest e → p ≤ 10 ^ max_digits
low_le e p h g = subst (λ (x : ℕ). x ≤ 10 ^ max_digits) (sym g) (lowest_le e h)

pub integer_is : (w : Bool) (e n p r : ℕ) (c : List Relation) → n ≡ (if w then 1 else 0) → p ≡ lowest e → r ≡ search (record { n = n; i = 1; f = 0; t = 0; odd = false }) c p (10 ^ max_digits) → r ≡ integer_of w e c
unfolding integer_of
integer_is w e n p r c g f h = h ∙ ap₂ (λ (x y : ℕ). search (record { n = x; i = 1; f = 0; t = 0; odd = false }) c y (10 ^ max_digits)) g f

-- ---- a kind

module _ (w : Bool) (e : ℕ) (c : List Relation) where
  abbrev pub KindSays : ℕ → Type 0
  KindSays r = r ≡ kind_spot w e c

  pub says_none : kind_rank w e c ≡ block → (r : ℕ) → r ≡ ranks → KindSays r
  says_none h r g = rw (le-ltb (kind_rank w e c) block (omega arith)) g

  pub kind_no_fraction : (q r : ℕ) → q ≡ fraction_code w c → fractions ≤ q → r ≡ ranks → KindSays r
  unfolding kind_rank
  kind_no_fraction q r g h k =
      says_none (ap (λ (b : Bool). elim b [ true ↦ if ltb (integer_of w e c) (10 ^ max_digits) then placed (fraction_code w c) (integer_of w e c) else block | false ↦ block ]) (le-ltb (fraction_code w c) fractions (omega arith))) r k

  pub some_fraction : (q : ℕ) → q ≡ fraction_code w c → q < fractions → kind_rank w e c ≡ (if ltb (integer_of w e c) (10 ^ max_digits) then placed (fraction_code w c) (integer_of w e c) else block)
  unfolding kind_rank
  some_fraction q g h =
      ap (λ (b : Bool). elim b [ true ↦ if ltb (integer_of w e c) (10 ^ max_digits) then placed (fraction_code w c) (integer_of w e c) else block | false ↦ block ]) (lt-ltb (fraction_code w c) fractions (omega arith))

  pub kind_no_integer : (q i r : ℕ) → q ≡ fraction_code w c → q < fractions → i ≡ integer_of w e c → 10 ^ max_digits ≤ i → r ≡ ranks → KindSays r
  kind_no_integer q i r g h f l k = says_none (some_fraction q g h ∙ ap (λ (b : Bool). if b then placed (fraction_code w c) (integer_of w e c) else block) (le-ltb (integer_of w e c) (10 ^ max_digits) (omega arith))) r k

  -- no i, whatever f is
  pub kind_none : (i r : ℕ) → i ≡ integer_of w e c → 10 ^ max_digits ≤ i → r ≡ ranks → KindSays r
  kind_none i r f l k =
      ⊎_elim (λ h. kind_no_integer (fraction_code w c) i r refl h f l k) (λ h. kind_no_fraction (fraction_code w c) r refl h k) (split (fraction_code w c) fractions)

  pub kind_found : (q i : ℕ) → q ≡ fraction_code w c → q < fractions → i ≡ integer_of w e c → i < 10 ^ max_digits
      → KindSays (spot_rank (record { e = e; v = record { 0 = q / 10 ^ max_places }; i = i; f = record { 0 = q % 10 ^ max_places } }))
  unfolding spot_rank
  kind_found q i g h f l =
      let k : kind_rank w e c ≡ placed q i = some_fraction q g h ∙ ap (λ (b : Bool). if b then placed (fraction_code w c) (integer_of w e c) else block) (lt-ltb (integer_of w e c) (10 ^ max_digits) (omega arith)) ∙ sym (ap₂ placed g f) in
      let t : q / 10 ^ max_places < suc max_places = (div-lt_iff_lt-mul (power_pos max_places)).1 h in
      let m : placed q i < block = digits_lt (digits_lt t l) (mod-lt q (power_pos max_places)) in
      rw (k, lt-ltb (placed q i) block m)

pub kind_proper : (e q i : ℕ) → e ≤ max_exponent → q < fractions → i < 10 ^ max_digits → Proper (record { e = e; v = record { 0 = q / 10 ^ max_places }; i = i; f = record { 0 = q % 10 ^ max_places } })
unfolding spot_rank
kind_proper e q i h g l =
    let t : q / 10 ^ max_places < suc max_places = (div-lt_iff_lt-mul (power_pos max_places)).1 g in
    let f : q % 10 ^ max_places < 10 ^ max_places = mod-lt q (power_pos max_places) in
    record {
      exponent = omega arith;
      places = t;
      whole = l;
      fraction = f;
      ranked = le_of_lt (ahead block e (suc max_exponent) (placed q i) 0 (let k : e < suc max_exponent = omega arith in k) (digits_lt (digits_lt t l) f));
    }

pub nowhere_proper : Proper (record { e = suc max_exponent; v = record { 0 = 0 }; i = 0; f = record { 0 = 0 } })
unfolding spot_rank
nowhere_proper = record { exponent = omega arith; places = omega arith; whole = omega arith; fraction = omega arith; ranked = omega arith }

-- ---- a clause

module _ (c : List Relation) where
  pub clause_none : (e r : ℕ) → e ≡ exponent_of c → max_exponent < e → r ≡ ranks → r ≡ clause_rank c
  unfolding clause_rank
  clause_none e r g h k =
      k ∙ sym (ap (λ (b : Bool). elim b [ true ↦ (if ltb (min (kind_rank true (exponent_of c) c) (kind_rank false (exponent_of c) c)) block then exponent_of c * block + min (kind_rank true (exponent_of c) c) (kind_rank false (exponent_of c) c) else ranks) | false ↦ ranks ]) (lt-leb (exponent_of c) max_exponent (omega arith)))

  pub clause_some : (e x y r : ℕ) → e ≡ exponent_of c → e ≤ max_exponent → KindSays true e c x → KindSays false e c y → r ≡ min x y → r ≡ clause_rank c
  unfolding clause_rank
  clause_some e x y r g h kx ky k =
      k ∙ ap₂ min kx ky ∙ either_kind (kind_rank true e c) (kind_rank false e c)
      ∙ ap (λ (z : ℕ). if ltb (min (kind_rank true z c) (kind_rank false z c)) block then z * block + min (kind_rank true z c) (kind_rank false z c) else ranks) g
      ∙ sym (ap (λ (b : Bool). elim b [ true ↦ (if ltb (min (kind_rank true (exponent_of c) c) (kind_rank false (exponent_of c) c)) block then exponent_of c * block + min (kind_rank true (exponent_of c) c) (kind_rank false (exponent_of c) c) else ranks) | false ↦ ranks ]) (le-leb (exponent_of c) max_exponent (omega arith)))
    where
      either_kind : (p q : ℕ) → min (if ltb p block then e * block + p else ranks) (if ltb q block then e * block + q else ranks) ≡ (if ltb (min p q) block then e * block + min p q else ranks)
      either_kind p q =
          ⊎_elim
          (λ a. ⊎_elim
          (λ b. rw (lt-ltb p block a, lt-ltb q block b, lt-ltb (min p q) block (omega arith)) (omega arith))
          (λ b. rw (lt-ltb p block a, le-ltb q block b, lt-ltb (min p q) block (omega arith)) (let m : min p q ≡ p = omega arith in rw m (omega arith)))
          (split q block))
          (λ a. ⊎_elim
          (λ b. rw (le-ltb p block a, lt-ltb q block b, lt-ltb (min p q) block (omega arith)) (let m : min p q ≡ q = omega arith in rw m (omega arith)))
          (λ b. rw (le-ltb p block a, le-ltb q block b, le-ltb (min p q) block (omega arith)) (omega arith))
          (split q block))
          (split p block)
