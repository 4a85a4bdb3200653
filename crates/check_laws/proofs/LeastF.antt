-- The least f by what is asked of f alone, with the least v that has room for it, comes after no v and f of the clause. So one that does not come after them is the least.
use mathlib.Core.Path.{◌≡◌, refl, sym, ap, subst, ◌∙◌}
use mathlib.Core.Bool.{Bool, true, false, not}
use mathlib.Core.List.{List, [], ◌∷◌}
use mathlib.Core.Logic.{⊎_elim}
use Prim.Native.Nat.{ℕ, zero, suc, ◌+◌, ◌-◌, ◌*◌, ◌%◌, ◌^◌, ◌≤◌, ◌<◌, min}
use native.Mathlib.Omega.{arith}
use native.Mathlib.Nat.{mul-le-mul_right}
use lib.Pow.{pow-add}
use lib.Dec.{ltb, leb, eqb}
use borrow.Author.Tests.{ne_eqb, eqb-false, leb-true, lt-ltb, ltb-true, not-true}
use Rattle.std.specs.Prelude.{if◌then◌else◌}
use Rattle.decimal.specs.Choice.{both}
use Rattle.decimal.proofs.Choices.{tested, not_both, both_true}
use Rattle.decimal.proofs.Values.{power_pos, power_mono}
use Rattle.decimal.specs.Lists.{all}
use Rattle.number.specs.Limits.{max_places}
use Rattle.pack_rules.specs.Syntax.{Relation}
use Rattle.check_laws.specs.Seek.{seek}
use Rattle.check_laws.proofs.Seeking.{split, and_true, seek_least}
use Rattle.check_laws.specs.Fast.{factor, test, passes, ends, passes_all, query_t, query_f, least_f, search, settled_f, fractions, tail_of, tail_places, tail_code, part_code}
use Rattle.check_laws.specs.Profile.{marked, Settled, least_room}
use Rattle.check_laws.proofs.Placing.{sought, tail_room}
use Rattle.check_laws.proofs.Searched.{search_least}

-- ---- what passes before k zeros passes as f

one_f : (k x : ℕ) (r : Relation) → passes (query_t k) r x ≡ true → passes query_f r (x * 10 ^ k) ≡ true
unfolding passes factor
one_f k x r = go (eqb r.operand 110) (eqb r.operand 105) (eqb r.operand 102) (eqb r.operand 116)
  where
    by : ℕ → ℕ → (a b c d : Bool) → ℕ
    by f t a b c d = if a then 0 else if b then 0 else if c then f else if d then t else 0

    go : (a b c d : Bool) → (if not (eqb (by (10 ^ k) 1 a b c d) 0) then test r (x * by (10 ^ k) 1 a b c d) else true) ≡ true
        → (if not (eqb (by 1 0 a b c d) 0) then test r (x * 10 ^ k * by 1 0 a b c d) else true) ≡ true
    go true b c d h = refl
    go false true c d h = refl
    go false false true d h =
        subst (λ (y : ℕ). test r y ≡ true) (let z : x * 10 ^ k ≡ x * 10 ^ k * 1 = omega arith in z)
        (rw (ne_eqb (10 ^ k) 0 (λ z. absurd (omega (arith, power_pos k)))) at h)
    go false false false true h = refl
    go false false false false h = refl

each_f : (k x : ℕ) (c : List Relation) → all (λ (r : Relation). passes (query_t k) r x) c ≡ true → all (λ (r : Relation). passes query_f r (x * 10 ^ k)) c ≡ true
each_f k x [] h = refl
each_f k x (r ∷ rs) h =
    let b = both_true (passes (query_t k) r x) (all (λ (r : Relation). passes (query_t k) r x) rs) h in
    and_true (one_f k x r b.0) (each_f k x rs b.1)

pub all_f : (k x : ℕ) (c : List Relation) → passes_all (query_t k) c x ≡ true → passes_all query_f c (x * 10 ^ k) ≡ true
unfolding passes_all ends
all_f k x c h = each_f k x c (both_true (not (eqb (x % 10) 0)) (all (λ (r : Relation). passes (query_t k) r x) c) h).1

-- such a t is not 0
some_t : (k x : ℕ) (c : List Relation) → passes_all (query_t k) c x ≡ true → 1 ≤ x
unfolding passes_all ends
some_t k x c h =
    let b = both_true (not (eqb (x % 10) 0)) (all (λ (r : Relation). passes (query_t k) r x) c) h in
    let n = eqb-false (x % 10) 0 (not-true (eqb (x % 10) 0) b.0) in
    ⊎_elim (λ z. absurd (n (let e : x ≡ 0 = omega arith in rw e))) (λ z. z) (split x 1)

-- ---- the bound

module _ (c : List Relation) (vs ws : ℕ) (s : Settled c vs ws) where
  F : ℕ
  F = least_f c

  U : ℕ
  U = least_room vs F

  -- a v with the t that is found before k zeros
  module _ (k : ℕ) (hk : k < max_places) (v : ℕ) (low : k < v) (high : v ≤ max_places) where
    -- t and its zeros are an f that v has room for
    fits : tail_of k c < 10 ^ (v - k) → tail_of k c * 10 ^ k < 10 ^ v
    fits h =
        let m : suc (tail_of k c) * 10 ^ k ≤ 10 ^ (v - k) * 10 ^ k = mul-le-mul_right (10 ^ k) h in
        let e : 10 ^ (v - k) * 10 ^ k ≡ 10 ^ v = sym (pow-add 10 (v - k) k) ∙ ap (λ (x : ℕ). 10 ^ x) (let z : v - k + k ≡ v = omega arith in z) in
        let p : 1 ≤ 10 ^ k = power_pos k in
        omega arith

    passed : tail_of k c < 10 ^ (v - k) → passes_all (query_t k) c (tail_of k c) ≡ true
    unfolding tail_of
    passed h =
        let b : 10 ^ (v - k) ≤ 10 ^ (max_places - k) = power_mono {j = max_places - k} (omega arith) in
        (search_least (query_t k) c 0 (10 ^ (max_places - k)) (omega arith)).hit (omega arith)

    f_after : tail_of k c < 10 ^ (v - k) → F ≤ tail_of k c * 10 ^ k
    unfolding F least_f
    f_after h =
        let l = search_least query_f c 1 (10 ^ max_places) (omega arith) in
        let p = passed h in
        let m : 1 * 10 ^ k ≤ tail_of k c * 10 ^ k = mul-le-mul_right (10 ^ k) (some_t k (tail_of k c) c p) in
        let o : 1 ≤ 10 ^ k = power_pos k in
        ⊎_elim (λ z. not_both (all_f k (tail_of k c) c p) (l.none (tail_of k c * 10 ^ k) (omega arith) z)) (λ z. z) (split (tail_of k c * 10 ^ k) F)

    v_after : tail_of k c < 10 ^ (v - k) → all (settled_f v (v - k)) c ≡ true → U ≤ v
    unfolding U least_room
    v_after h a =
        let l = seek_least (λ v. both (marked vs v) (ltb F (10 ^ v))) max_places 1 in
        let m = both_true (marked vs v) (marked ws (v - k)) (sym (s.says v (v - k) high (omega arith)) ∙ a) in
        let r : F < 10 ^ v = let x = f_after h in let y = fits h in omega arith in
        ⊎_elim (λ z. not_both (and_true m.0 (lt-ltb F (10 ^ v) r)) (l.none v (omega arith) z)) (λ z. z) (split v U)

  abbrev Bound : ℕ
  Bound = min (U * 10 ^ max_places + F) fractions

  bound_tail : (k : ℕ) → k < max_places → Bound ≤ tail_code k c
  unfolding tail_code
  bound_tail k hk =
      let t = tail_of k c in
      let v = tail_places k t c in
      tested (leb v max_places)
      (λ z.
      let hv = leb-true v max_places z in
      let l = sought k hk c t in
      let low : k < v = l.low in
      let b = both_true (all (settled_f v (v - k)) c) (ltb t (10 ^ (v - k))) (l.hit (omega arith)) in
      let h = ltb-true t (10 ^ (v - k)) b.1 in
      let x = f_after k hk v low hv h in
      let m : U * 10 ^ max_places ≤ v * 10 ^ max_places = mul-le-mul_right (10 ^ max_places) (v_after k hk v low hv h b.0) in
      rw z (omega arith))
      (λ z. rw z (omega arith))

  bound_part : (n : ℕ) → n ≤ max_places → Bound ≤ part_code n c
  unfolding part_code
  bound_part zero h = omega arith
  bound_part (suc n) h = let a = bound_part n (omega arith) in let b = bound_tail n (omega arith) in omega arith

-- ---- what a code is at most

module _ (c : List Relation) where
  tail_most : (k : ℕ) → k < max_places → tail_code k c ≤ fractions
  unfolding tail_code
  tail_most k hk =
      let r = tail_room k hk c (tail_of k c) (10 ^ k) refl refl in
      tested (leb (tail_places k (tail_of k c) c) max_places)
      (λ z.
      let m : tail_places k (tail_of k c) c * 10 ^ max_places ≤ max_places * 10 ^ max_places = mul-le-mul_right (10 ^ max_places) (leb-true (tail_places k (tail_of k c) c) max_places z) in
      rw z (omega arith))
      (λ z. rw z (omega arith))

  part_most : (n : ℕ) → part_code n c ≤ fractions
  unfolding part_code
  part_most zero = omega arith
  part_most (suc n) = let a = part_most n in omega arith

  part_under : (n k : ℕ) → k < n → part_code n c ≤ tail_code k c
  unfolding part_code
  part_under zero k h = absurd (omega arith)
  part_under (suc n) k h =
      ⊎_elim (λ z. let a = part_under n k z in omega arith)
      (λ z. let e : tail_code n c ≡ tail_code k c = ap (λ (x : ℕ). tail_code x c) (let y : n ≡ k = omega arith in y) in omega arith)
      (split k n)

-- ---- what the code tests

module _ (c : List Relation) (vs ws : ℕ) (s : Settled c vs ws) (f u : ℕ) (is_f : f ≡ least_f c) (is-u : u ≡ least_room vs f) where
  same_u : u ≡ U c vs ws s
  unfolding U F
  same_u = is-u ∙ ap (least_room vs) is_f

  same_f : f ≡ F c vs ws s
  unfolding F
  same_f = is_f

  -- no v has room for the least f, or there is none
  pub part_crowded : max_places < u → fractions ≡ part_code max_places c
  part_crowded h =
      let b = bound_part c vs ws s max_places (omega arith) in
      let m = part_most c max_places in
      let e = same_u in
      omega arith

  -- one at the bound is the least
  pub part_reached : (k x : ℕ) → k < max_places → x ≡ tail_code k c → x ≤ u * 10 ^ max_places + f → x ≡ part_code max_places c
  part_reached k x hk g h =
      let b = bound_part c vs ws s max_places (omega arith) in
      let m = tail_most c k hk in
      let p = part_under c max_places k hk in
      let e = same_u in
      let d = same_f in
      omega arith

-- ---- a search for f

pub f_is : (r : ℕ) (c : List Relation) → r ≡ search query_f c 1 (10 ^ max_places) → r ≡ least_f c
unfolding least_f
f_is r c h = h

pub f_most : (f : ℕ) (c : List Relation) → f ≡ least_f c → f ≤ 10 ^ max_places
unfolding least_f
f_most f c e = omega (arith, (search_least query_f c 1 (10 ^ max_places) (omega arith)).high)

pub room_is : (r vs f : ℕ) → r ≡ seek (λ v. both (marked vs v) (ltb f (10 ^ v))) max_places 1 → r ≡ least_room vs f
unfolding least_room
room_is r vs f h = h
