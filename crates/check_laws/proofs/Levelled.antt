-- What a clause asks of a number is what it asks of the number's remainders, level by level, and of the number itself.
use mathlib.Core.Path.{◌≡◌, refl, sym, ap, ap₂, ◌∙◌}
use mathlib.Core.Bool.{Bool, true, false, not}
use mathlib.Core.List.{List, [], ◌∷◌}
use mathlib.Core.Logic.{⊎_elim}
use Prim.Native.Nat.{ℕ, zero, suc, ◌+◌, ◌-◌, ◌*◌, ◌/◌, ◌%◌, ◌^◌, ◌≤◌, ◌<◌}
use native.Mathlib.Omega.{arith}
use native.Mathlib.Nat.{mod-zero, mod-one, dvd-mul_right, mod-mod_of_dvd, mul-div_cancel, mul-mod_left, mod-eq-zero_of_dvd, dvd_of_mod-eq-zero, dvd-mul_left_of_dvd}
use lib.Dec.{leb, eqb}
use lib.Pow.{pow-add}
use lib.Arith.{mod-mul}
use borrow.Author.Tests.{eqb-true, eqb-false, eq-eqb, ne_eqb, not-true}
use Rattle.std.specs.Prelude.{if◌then◌else◌}
use Rattle.decimal.specs.Choice.{both}
use Rattle.decimal.proofs.Choices.{choice, tested, not_both, both_true, both_one}
use Rattle.decimal.specs.Lists.{all}
use Rattle.pack_rules.specs.Syntax.{Relation}
use Rattle.check_laws.specs.Fast.{Query, factor, asked, listed, test, passes, ends, passes_all}
use Rattle.check_laws.specs.Levels.{levels, window, stray, level_of, level_in, own_one, last_digit, own, below, levelled}
use Rattle.check_laws.proofs.Seeking.{split}

-- ---- remainders

-- a remainder by a lower power of ten does not see the upper digits
mod_power : (x : ℕ) {i j : ℕ} → i ≤ j → x % 10 ^ j % 10 ^ i ≡ x % 10 ^ i
mod_power x {i} {j} h =
    let e : 10 ^ j ≡ 10 ^ i * 10 ^ (j - i) = ap (λ (k : ℕ). 10 ^ k) (let q : j ≡ i + (j - i) = omega arith in q) ∙ pow-add 10 i (j - i) in
    mod-mod_of_dvd (10 ^ i) {b = 10 ^ j} x (rw e (dvd-mul_right (10 ^ i) (10 ^ (j - i))))

pub below_mod : (q : Query) (c : List Relation) (j k x : ℕ) → j ≤ suc k → below q c j (x % 10 ^ k) ≡ below q c j x
unfolding below
below_mod q c zero k x h = refl
below_mod q c (suc j) k x h = rw (mod_power x {i = j} {j = k} (omega arith), below_mod q c j k x (omega arith))

-- a remainder of x * s by a multiple of s
scaled : (x s m : ℕ) → 0 < s → 0 < m → x * s % (m * s) ≡ x % m * s
scaled x s m hs hm =
    let a = mod-mul (x * s) {m = m} {c = s} hm hs in
    let b : x * s / s ≡ x = mul-div_cancel x hs in
    let z : x * s % s ≡ 0 = mul-mod_left x s in
    a ∙ ap₂ (λ (y r : ℕ). y % m * s + r) b z ∙ (let g : x % m * s + 0 ≡ x % m * s = omega arith in g)

-- by a divisor of s it is 0
settled : (x s w : ℕ) → s % w ≡ 0 → x * s % w ≡ 0
settled x s w e = mod-eq-zero_of_dvd w (dvd-mul_left_of_dvd w (dvd_of_mod-eq-zero w e) x)

-- ---- the level of a modulus

-- at a level below 7 the remainder by w of x * s is s times that of x by its power of ten; at `window` there is no modulus
pub record At (s w j : ℕ) : Type 0 where
  pub few : j ≤ window
  pub free : j ≡ window → w ≡ 0
  pub power : j < levels → (x : ℕ) → x * s % w ≡ x % 10 ^ j * s

ten : (s w j m : ℕ) → 0 < s → 0 < m → m ≡ 10 ^ j → eqb w (m * s) ≡ true → j < levels → At s w j
ten s w j m hs hm p e h =
    record {
      few = omega arith;
      free = λ z. absurd (omega arith);
      power = λ _ x. ap (λ (y : ℕ). x * s % y) (eqb-true w (m * s) e) ∙ scaled x s m hs hm ∙ ap (λ (y : ℕ). x % y * s) p;
    }

pub level_at : (s w : ℕ) → 0 < s → eqb (level_of s w) stray ≡ false → At s w (level_of s w)
unfolding level_of
level_at s w hs = go (eqb w 0) refl
  where
    Good : ℕ → Type 0
    Good j = eqb j stray ≡ false → At s w j

    big : Good (if eqb w (10 * s) then 1 else if eqb w (100 * s) then 2 else if eqb w (1_000 * s) then 3 else if eqb w (10_000 * s) then 4 else if eqb w (100_000 * s) then 5 else if eqb w (1_000_000 * s) then 6 else stray)
    big =
        choice Good (eqb w (10 * s)) (λ e _. ten s w 1 10 hs (omega arith) refl e (omega arith))
        (λ _. choice Good (eqb w (100 * s)) (λ e _. ten s w 2 100 hs (omega arith) refl e (omega arith))
        (λ _. choice Good (eqb w (1_000 * s)) (λ e _. ten s w 3 1_000 hs (omega arith) refl e (omega arith))
        (λ _. choice Good (eqb w (10_000 * s)) (λ e _. ten s w 4 10_000 hs (omega arith) refl e (omega arith))
        (λ _. choice Good (eqb w (100_000 * s)) (λ e _. ten s w 5 100_000 hs (omega arith) refl e (omega arith))
        (λ _. choice Good (eqb w (1_000_000 * s)) (λ e _. ten s w 6 1_000_000 hs (omega arith) refl e (omega arith))
        (λ _ n. not_both refl n))))))

    small : Good (if eqb (s % w) 0 then 0 else stray)
    small =
        choice Good (eqb (s % w) 0)
        (λ e _. record {
          few = omega arith;
          free = λ z. absurd (omega arith);
          power = λ _ x. settled x s w (eqb-true (s % w) 0 e) ∙ (let g : 0 ≡ 0 * s = omega arith in g) ∙ ap (λ (y : ℕ). y * s) (sym (mod-one x));
        })
        (λ _ n. not_both refl n)

    go : (b : Bool) → eqb w 0 ≡ b → Good (if b then window else if leb w s then (if eqb (s % w) 0 then 0 else stray) else if eqb w (10 * s) then 1 else if eqb w (100 * s) then 2 else if eqb w (1_000 * s) then 3 else if eqb w (10_000 * s) then 4 else if eqb w (100_000 * s) then 5 else if eqb w (1_000_000 * s) then 6 else stray)
    go true e = λ _. record { few = omega arith; free = λ _. eqb-true w 0 e; power = λ h. absurd (omega arith) }
    go false e = choice Good (leb w s) (λ _. small) (λ _. big)

-- ---- one relation

unfoldable under_one : Query → Relation → ℕ → ℕ → Bool
under_one q r zero x = true
under_one q r (suc j) x = both (own_one q j r (x % 10 ^ j)) (under_one q r j x)

module _ (q : Query) (r : Relation) where
  pub own_unasked : (j x : ℕ) → asked q r ≡ false → own_one q j r x ≡ true
  unfolding own_one
  own_unasked j x e = rw e

  pub own_other : (j x : ℕ) → (level_in q r ≡ j → ⊥) → own_one q j r x ≡ true
  unfolding own_one
  own_other j x n = rw (ne_eqb (level_in q r) j n) (pick (asked q r))
    where
      pick : (a : Bool) → (if both a false then listed r (x * factor q r.operand) else true) ≡ true
      pick true = refl
      pick false = refl

  pub own_here : (j x : ℕ) → asked q r ≡ true → level_in q r ≡ j → own_one q j r x ≡ listed r (x * factor q r.operand)
  unfolding own_one
  own_here j x a e = rw (a, eq-eqb (level_in q r) j e)

  -- no level below J, or just one
  below_none : (J x : ℕ) → ((j : ℕ) → j < J → own_one q j r (x % 10 ^ j) ≡ true) → under_one q r J x ≡ true
  unfolding under_one
  below_none zero x f = refl
  below_none (suc J) x f = rw (f J (omega arith), below_none J x (λ j h. f j (omega arith)))

  below_one : (J j x : ℕ) → j < J → ((i : ℕ) → (i ≡ j → ⊥) → own_one q i r (x % 10 ^ i) ≡ true) → under_one q r J x ≡ own_one q j r (x % 10 ^ j)
  unfolding under_one
  below_one zero j x h f = absurd (omega arith)
  below_one (suc J) j x h f =
      tested (eqb J j)
      (λ e. let g : J ≡ j = eqb-true J j e in
      ap (both (own_one q J r (x % 10 ^ J))) (below_none J x (λ i k. f i (λ z. absurd (omega arith))))
      ∙ both_one (own_one q J r (x % 10 ^ J)) ∙ ap (λ (i : ℕ). own_one q i r (x % 10 ^ i)) g)
      (λ e. let n = eqb-false J j e in
      let l : j < J = apart n in
      rw (f J n) (below_one J j x l f))
    where
      apart : (J ≡ j → ⊥) → j < J
      apart n = ⊎_elim (λ a. a) (λ a. absurd (n (omega arith))) (split j J)

  asked_pos : asked q r ≡ true → 0 < factor q r.operand
  asked_pos e = let n = eqb-false (factor q r.operand) 0 (not-true _ e) in ⊎_elim (λ h. absurd (n (omega arith))) (λ h. h) (split (factor q r.operand) 1)

  split_low : (x : ℕ) → asked q r ≡ true → At (factor q r.operand) r.modulus (level_in q r) → level_in q r < levels
      → test r (x * factor q r.operand) ≡ both (own_one q window r x) (under_one q r levels x)
  unfolding test
  split_low x a known h =
      ap (listed r) (known.power h x)
      ∙ sym (own_here (level_in q r) (x % 10 ^ level_in q r) a refl)
      ∙ sym (below_one levels (level_in q r) x h (λ i n. own_other i (x % 10 ^ i) (λ z. n (sym z))))
      ∙ ap (λ (b : Bool). both b (under_one q r levels x)) (sym (own_other window x (λ z. absurd (omega arith))))

  split_high : (x : ℕ) → asked q r ≡ true → At (factor q r.operand) r.modulus (level_in q r) → levels ≤ level_in q r
      → test r (x * factor q r.operand) ≡ both (own_one q window r x) (under_one q r levels x)
  unfolding test
  split_high x a known h =
      let top = known.few in
      let e : level_in q r ≡ window = omega arith in
      ap (listed r) (ap (λ (w : ℕ). x * factor q r.operand % w) (known.free e) ∙ mod-zero (x * factor q r.operand))
      ∙ sym (own_here window x a e)
      ∙ sym (both_one (own_one q window r x))
      ∙ ap (both (own_one q window r x)) (sym (below_none levels x (λ j k. own_other j (x % 10 ^ j) (λ z. absurd (omega arith)))))

  one_split : (x : ℕ) → (if asked q r then not (eqb (level_in q r) stray) else true) ≡ true → passes q r x ≡ both (own_one q window r x) (under_one q r levels x)
  unfolding passes
  one_split x e = go (asked q r) refl e
    where
      go : (a : Bool) → asked q r ≡ a → (if a then not (eqb (level_in q r) stray) else true) ≡ true
          → (if a then test r (x * factor q r.operand) else true) ≡ both (own_one q window r x) (under_one q r levels x)
      go true a f =
          let known = level_at (factor q r.operand) r.modulus (asked_pos a) (not-true _ f) in
          ⊎_elim (split_low x a known) (split_high x a known) (split (level_in q r) levels)
      go false a f =
          sym (ap₂ both (own_unasked window x a) (below_none levels x (λ j h. own_unasked j (x % 10 ^ j) a)))

-- ---- a clause

all_both : (P Q : Relation → Bool) (c : List Relation) → all (λ (r : Relation). both (P r) (Q r)) c ≡ both (all P c) (all Q c)
all_both P Q [] = refl
all_both P Q (r ∷ c) = ap (both (both (P r) (Q r))) (all_both P Q c) ∙ mix (P r) (Q r) (all P c) (all Q c)
  where
    mix : (a b x y : Bool) → both (both a b) (both x y) ≡ both (both a x) (both b y)
    mix true true true y = refl
    mix true true false y = refl
    mix true false true y = refl
    mix true false false y = refl
    mix false b x y = refl

mix_four : (a b x y : Bool) → both (both a x) (both b y) ≡ both (both a b) (both x y)
mix_four true true true y = refl
mix_four true true false y = refl
mix_four true false true y = refl
mix_four true false false y = refl
mix_four false b x y = refl

-- the last digit, at the levels below J
unfoldable digits : Query → ℕ → ℕ → Bool
digits q zero x = true
digits q (suc j) x = both (last_digit q j (x % 10 ^ j)) (digits q j x)

below_is : (q : Query) (c : List Relation) (J x : ℕ) → below q c J x ≡ both (digits q J x) (all (λ (r : Relation). under_one q r J x) c)
unfolding below under_one digits own
below_is q c zero x = sym (all_true c)
  where
    all_true : (c : List Relation) → all (λ (r : Relation). true) c ≡ true
    all_true [] = refl
    all_true (r ∷ c) = all_true c
below_is q c (suc j) x =
    ap (both (both (last_digit q j (x % 10 ^ j)) (all (λ (r : Relation). own_one q j r (x % 10 ^ j)) c))) (below_is q c j x)
    ∙ mix_four (last_digit q j (x % 10 ^ j)) (digits q j x) (all (λ (r : Relation). own_one q j r (x % 10 ^ j)) c) (all (λ (r : Relation). under_one q r j x) c)
    ∙ ap (both (both (last_digit q j (x % 10 ^ j)) (digits q j x))) (sym (all_both (λ (r : Relation). own_one q j r (x % 10 ^ j)) (λ (r : Relation). under_one q r j x) c))

digits_is : (q : Query) (x : ℕ) → ends q x ≡ both (last_digit q window x) (digits q levels x)
unfolding ends digits last_digit
digits_is q x = go q.odd
  where
    go : (o : Bool) → (if o then not (eqb (x % 10) 0) else true) ≡ both (if both o (eqb window 1) then not (eqb x 0) else true)
        (both (if both o (eqb 6 1) then not (eqb (x % 10 ^ 6) 0) else true)
        (both (if both o (eqb 5 1) then not (eqb (x % 10 ^ 5) 0) else true)
        (both (if both o (eqb 4 1) then not (eqb (x % 10 ^ 4) 0) else true)
        (both (if both o (eqb 3 1) then not (eqb (x % 10 ^ 3) 0) else true)
        (both (if both o (eqb 2 1) then not (eqb (x % 10 ^ 2) 0) else true)
        (both (if both o (eqb 1 1) then not (eqb (x % 10 ^ 1) 0) else true)
        (both (if both o (eqb 0 1) then not (eqb (x % 10 ^ 0) 0) else true) true)))))))
    go true = sym (both_one (not (eqb (x % 10) 0)))
    go false = refl

each_split : (q : Query) (c : List Relation) (x : ℕ) → levelled q c ≡ true
    → all (λ (r : Relation). passes q r x) c ≡ all (λ (r : Relation). both (own_one q window r x) (under_one q r levels x)) c
unfolding levelled
each_split q [] x e = refl
each_split q (r ∷ c) x e = let h = both_true _ _ e in ap₂ both (one_split q r x h.0) (each_split q c x h.1)

-- What a clause asks of x: what it asks of x itself, and of its remainders.
pub levelled_split : (q : Query) (c : List Relation) (x : ℕ) → levelled q c ≡ true → passes_all q c x ≡ both (own q c window x) (below q c levels x)
unfolding passes_all own
levelled_split q c x e =
    ap₂ both (digits_is q x) (each_split q c x e ∙ all_both (λ (r : Relation). own_one q window r x) (λ (r : Relation). under_one q r levels x) c)
    ∙ mix_four (last_digit q window x) (all (λ (r : Relation). own_one q window r x) c) (digits q levels x) (all (λ (r : Relation). under_one q r levels x) c)
    ∙ ap (both (both (last_digit q window x) (all (λ (r : Relation). own_one q window r x) c))) (sym (below_is q c levels x))
