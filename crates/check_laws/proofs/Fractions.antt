-- The least fraction of a clause, v and f as one number: where f is 0, where it ends in k zeros, and where it is not 0.
use mathlib.Core.Path.{◌≡◌, refl, sym, ap, ap₂, subst, ◌∙◌}
use mathlib.Core.Bool.{Bool, true, false, not}
use mathlib.Core.List.{List, [], ◌∷◌}
use mathlib.Core.Logic.{◌⊎◌, ⊎_elim}
use Prim.Native.Nat.{ℕ, zero, suc, ◌+◌, ◌-◌, ◌*◌, ◌/◌, ◌%◌, ◌^◌, ◌≤◌, ◌<◌}
use native.Mathlib.Omega.{arith}
use native.Mathlib.Nat.{mul-le-mul_right, mul-lt-mul_of_pos_right, zero-mul}
use lib.Pow.{pow-add}
use lib.Dec.{eqb, ltb, leb}
use borrow.Author.Tests.{eqb-true, eqb-false, eq-eqb, ne_eqb, ltb-true, lt-ltb, leb-true, leb-false, not-true}
use Rattle.std.specs.Prelude.{if◌then◌else◌}
use Rattle.decimal.specs.Choice.{both, either}
use Rattle.decimal.proofs.Choices.{tested, choice, not_both, both_true}
use Rattle.decimal.proofs.Values.{power_pos, power_mono}
use Rattle.decimal.specs.Lists.{all}
use Rattle.number.specs.Limits.{max_places}
use Rattle.number.specs.Admitted.{w_of, t_of}
use Rattle.pack_rules.specs.Syntax.{Relation}
use Rattle.check_laws.specs.Seek.{Least, seek}
use Rattle.check_laws.proofs.Seeking.{split, and_false_left, and_false_right, and_true, or_false, least_none, least_or, seek_least}
use Rattle.check_laws.specs.Fast.{query_t, factor, test, passes, ends, passes_all, settled_f, fractions, whole_code, tail_of, tail_places, tail_code, part_code, fraction_code}
use Rattle.check_laws.proofs.Parts.{Parts, parts, parts_w, parts_t}
use Rattle.check_laws.proofs.Searched.{search_least}

-- what v and w settle, and what is asked of t
unfoldable pub fraction : ℕ → ℕ → List Relation → ℕ → Bool
fraction v w c t = both (all (settled_f v w) c) (all (λ (r : Relation). passes (query_t (v - w)) r t) c)

-- v and f, of one number
abbrev pub v_of : ℕ → ℕ
v_of q = q / 10 ^ max_places

abbrev pub f_of : ℕ → ℕ
f_of q = q % 10 ^ max_places

abbrev W : ℕ → ℕ
W q = w_of (v_of q) (f_of q)

abbrev T : ℕ → ℕ
T q = t_of (v_of q) (f_of q)

-- f is below 10^v, has the kind that K says of v and w, and all holds that is asked
unfoldable pub fits : (ℕ → ℕ → Bool) → List Relation → ℕ → Bool
fits K c q = both (ltb (f_of q) (10 ^ v_of q)) (both (K (v_of q) (W q)) (fraction (v_of q) (W q) c (T q)))

-- what fits a kind
pub record Fits (K : ℕ → ℕ → Bool) (c : List Relation) (q : ℕ) : Type 0 where
  pub below : f_of q < 10 ^ v_of q
  pub parts : Parts (v_of q) (f_of q) (W q) (T q)
  pub kind : K (v_of q) (W q) ≡ true
  pub settled : all (settled_f (v_of q) (W q)) c ≡ true
  pub asks : all (λ (r : Relation). passes (query_t (v_of q - W q)) r (T q)) c ≡ true

fits_of : (K : ℕ → ℕ → Bool) (c : List Relation) (q : ℕ) → fits K c q ≡ true → Fits K c q
unfolding fits fraction
fits_of K c q h =
    let a = both_true _ _ h in
    let b = both_true _ _ a.1 in
    let d = both_true _ _ b.1 in
    let l = ltb-true (f_of q) (10 ^ v_of q) a.0 in
    record { below = l; parts = parts (v_of q) (f_of q) l; kind = b.0; settled = d.0; asks = d.1 }

-- a bound that whatever fits keeps is a bound below which nothing fits
unfit : (K : ℕ → ℕ → Bool) (c : List Relation) (r : ℕ) → ((q : ℕ) → q < fractions → Fits K c q → r ≤ q) → (q : ℕ) → q < fractions → q < r → fits K c q ≡ false
unfit K c r h q l b = tested (fits K c q) (λ e. absurd (let g = h q l (fits_of K c q e) in omega arith)) (λ e. e)

-- ---- f is 0

abbrev pub is_whole : ℕ → ℕ → Bool
is_whole v w = eqb w 0

-- what is asked of 0 does not depend on the zeros after it
zero_asked : (k : ℕ) (c : List Relation) → all (λ (r : Relation). passes (query_t k) r 0) c ≡ all (λ (r : Relation). passes (query_t 0) r 0) c
unfolding passes factor
zero_asked k [] = refl
zero_asked k (r ∷ rs) = ap₂ both (one r.operand) (zero_asked k rs)
  where
    Asks : ℕ → ℕ → Type 0
    Asks s u = (if not (eqb s 0) then test r (0 * s) else true) ≡ (if not (eqb u 0) then test r (0 * u) else true)

    pos : Asks (10 ^ k) 1
    pos = rw (ne_eqb (10 ^ k) 0 (λ z. omega (arith, power_pos k)), zero-mul (10 ^ k))

    pick : (a b d e : Bool)
        → Asks (if a then 0 else if b then 0 else if d then 10 ^ k else if e then 1 else 0) (if a then 0 else if b then 0 else if d then 1 else if e then 1 else 0)
    pick true b d e = refl
    pick false true d e = refl
    pick false false true e = pos
    pick false false false true = refl
    pick false false false false = refl

    one : (o : ℕ) → Asks (if eqb o 110 then 0 else if eqb o 105 then 0 else if eqb o 102 then 10 ^ k else if eqb o 116 then 1 else 0) (if eqb o 110 then 0 else if eqb o 105 then 0 else if eqb o 102 then 1 else if eqb o 116 then 1 else 0)
    one o = pick (eqb o 110) (eqb o 105) (eqb o 102) (eqb o 116)

zero_parts : (v : ℕ) → Parts v 0 0 0
zero_parts v = record { w_le = omega arith; whole = zero-mul (10 ^ (v - 0)); t_lt = omega arith; odd = λ n z. n refl }

module _ (c : List Relation) where
  abbrev v₀ : ℕ
  v₀ = seek (λ v. all (settled_f v 0) c) (suc max_places) 0

  sought : Least (λ v. all (settled_f v 0) c) 0 (suc max_places) v₀
  sought = seek_least (λ v. all (settled_f v 0) c) (suc max_places) 0

  -- what fits has f 0, and its v is settled
  zero_t : (q : ℕ) → Fits is_whole c q → T q ≡ 0
  zero_t q g =
      let z = eqb-true (W q) 0 g.kind in
      let h : T q < 10 ^ 0 = subst (λ (x : ℕ). T q < 10 ^ x) z g.parts.t_lt in
      omega arith

  asks_zero : (q : ℕ) → Fits is_whole c q → all (λ (r : Relation). passes (query_t 0) r 0) c ≡ true
  asks_zero q g =
      sym (zero_asked (v_of q - W q) c)
      ∙ subst (λ (x : ℕ). all (λ (r : Relation). passes (query_t (v_of q - W q)) r x) c ≡ true) (zero_t q g) g.asks

  settled_zero : (q : ℕ) → q < fractions → Fits is_whole c q → v₀ ≤ v_of q
  settled_zero q h g =
      ⊎_elim (λ k. not_both (subst (λ (x : ℕ). all (settled_f (v_of q) x) c ≡ true) (eqb-true (W q) 0 g.kind) g.settled) (sought.none (v_of q) (omega arith) k)) (λ k. k)
      (split (v_of q) v₀)

  whole_hit : all (λ (r : Relation). passes (query_t 0) r 0) c ≡ true → v₀ ≤ max_places → fits is_whole c (v₀ * 10 ^ max_places) ≡ true
  unfolding fits fraction
  whole_hit a h =
      let v_is : v_of (v₀ * 10 ^ max_places) ≡ v₀ = omega arith in
      let f_is : f_of (v₀ * 10 ^ max_places) ≡ 0 = omega arith in
      let p = parts v₀ 0 (power_pos v₀) in
      ap₂ (λ (v f : ℕ). both (ltb f (10 ^ v)) (both (eqb (w_of v f) 0) (both (all (settled_f v (w_of v f)) c) (all (λ (r : Relation). passes (query_t (v - w_of v f)) r (t_of v f)) c)))) v_is f_is
      ∙ and_true (lt-ltb _ _ (power_pos v₀))
      (ap₂ (λ (w t : ℕ). both (eqb w 0) (both (all (settled_f v₀ w) c) (all (λ (r : Relation). passes (query_t (v₀ - w)) r t) c))) (parts_w p (zero_parts v₀)) (parts_t p (zero_parts v₀))
      ∙ and_true (sought.hit (omega arith)) (zero_asked (v₀ - 0) c ∙ a))

  whole_least : Least (fits is_whole c) 0 fractions (whole_code c)
  unfolding whole_code
  whole_least = go (all (λ (r : Relation). passes (query_t 0) r 0) c) refl
    where
      go : (b : Bool) → all (λ (r : Relation). passes (query_t 0) r 0) c ≡ b → Least (fits is_whole c) 0 fractions (elim b [ true ↦ v₀ * 10 ^ max_places | false ↦ fractions ])
      go true a =
          record {
            low = omega arith;
            high = omega (arith, sought.high);
            none = λ j _ h. unfit is_whole c (v₀ * 10 ^ max_places) (λ q l g. let s = settled_zero q l g in omega arith) j (omega (arith, sought.high)) h;
            hit = λ h. whole_hit a (omega arith);
          }
      go false a = least_none (fits is_whole c) 0 fractions (omega arith) (λ j _ h. unfit is_whole c fractions (λ q l g. not_both (asks_zero q g) a) j h h)

-- ---- f ends in k zeros, and is not 0

abbrev pub is_tail : ℕ → ℕ → ℕ → Bool
is_tail k v w = both (ltb k v) (eqb w (v - k))

module _ (k : ℕ) (hk : k < max_places) (c : List Relation) where
  abbrev t : ℕ
  t = tail_of k c

  searched : Least (passes_all (query_t k) c) 0 (10 ^ (max_places - k)) (tail_of k c)
  unfolding tail_of
  searched = search_least (query_t k) c 0 (10 ^ (max_places - k)) (omega arith)

  abbrev v : ℕ
  v = tail_places k (tail_of k c) c

  abbrev good : ℕ → Bool
  good u = both (all (settled_f u (u - k)) c) (ltb (tail_of k c) (10 ^ (u - k)))

  placed_at : Least (λ u. both (all (settled_f u (u - k)) c) (ltb (tail_of k c) (10 ^ (u - k)))) (suc k) (suc max_places) (tail_places k (tail_of k c) c)
  unfolding tail_places
  placed_at = subst (λ (x : ℕ). Least (λ u. both (all (settled_f u (u - k)) c) (ltb (tail_of k c) (10 ^ (u - k)))) (suc k) x (seek (λ u. both (all (settled_f u (u - k)) c) (ltb (tail_of k c) (10 ^ (u - k)))) (max_places - k) (suc k)))
      (let g : suc k + (max_places - k) ≡ suc max_places = omega arith in g)
      (seek_least (λ u. both (all (settled_f u (u - k)) c) (ltb (tail_of k c) (10 ^ (u - k)))) (max_places - k) (suc k))

  -- what fits: k < v, w = v - k, f = t' * 10 ^ k, and t' passes the search
  module _ (q : ℕ) (hq : q < fractions) (g : Fits (is_tail k) c q) where
    after : k < v_of q
    after = ltb-true k (v_of q) (both_true _ _ g.kind).0

    w_is : W q ≡ v_of q - k
    w_is = eqb-true (W q) (v_of q - k) (both_true (ltb k (v_of q)) _ g.kind).1

    tail : v_of q - W q ≡ k
    tail = let e = w_is in let a = after in omega arith

    f_is : T q * 10 ^ k ≡ f_of q
    f_is = subst (λ (x : ℕ). T q * 10 ^ x ≡ f_of q) tail g.parts.whole

    t_lt : T q < 10 ^ (v_of q - k)
    t_lt = subst (λ (x : ℕ). T q < 10 ^ x) w_is g.parts.t_lt

    in_range_law : T q < 10 ^ (max_places - k)
    in_range_law = let m : 10 ^ (v_of q - k) ≤ 10 ^ (max_places - k) = power_mono {j = max_places - k} (omega arith) in omega (arith, t_lt)

    pass : passes_all (query_t k) c (T q) ≡ true
    unfolding passes_all ends
    pass =
        and_true (ap not (ne_eqb (T q % 10) 0 (g.parts.odd (λ z. let e = w_is in let a = after in omega arith))))
        (subst (λ (x : ℕ). all (λ (r : Relation). passes (query_t x) r (T q)) c ≡ true) tail g.asks)

    no_less_t : tail_of k c ≤ T q
    no_less_t = ⊎_elim (λ h. not_both pass (searched.none (T q) (omega arith) h)) (λ h. h) (split (T q) (tail_of k c))

    no_less_v : tail_places k (tail_of k c) c ≤ v_of q
    no_less_v = ⊎_elim (λ h. not_both
        (and_true (subst (λ (x : ℕ). all (settled_f (v_of q) x) c ≡ true) w_is g.settled) (lt-ltb (tail_of k c) (10 ^ (v_of q - k)) (let a = t_lt in let b = no_less_t in omega arith)))
        (placed_at.none (v_of q) (let a = after in omega arith) h)) (λ h. h) (split (v_of q) (tail_places k (tail_of k c) c))

    -- so its code is no less
    no_less : tail_places k (tail_of k c) c * 10 ^ max_places + tail_of k c * 10 ^ k ≤ q
    no_less =
        let a = no_less_v in
        let b = mul-le-mul_right (10 ^ k) no_less_t in
        let d = f_is in
        omega arith

  module _ (hv : tail_places k (tail_of k c) c ≤ max_places) where
    held : (all (settled_f (tail_places k (tail_of k c) c) (tail_places k (tail_of k c) c - k)) c ≡ true) × (ltb (tail_of k c) (10 ^ (tail_places k (tail_of k c) c - k)) ≡ true)
    held = both_true _ _ (placed_at.hit (omega arith))

    t_small : tail_of k c < 10 ^ (tail_places k (tail_of k c) c - k)
    t_small = ltb-true _ _ held.1

    t_range : tail_of k c < 10 ^ (max_places - k)
    t_range = let m : 10 ^ (tail_places k (tail_of k c) c - k) ≤ 10 ^ (max_places - k) = power_mono {j = max_places - k} (omega arith) in omega (arith, t_small)

    t_passes : passes_all (query_t k) c (tail_of k c) ≡ true
    t_passes = searched.hit t_range

    t_parts : Parts (tail_places k (tail_of k c) c) (tail_of k c * 10 ^ k) (tail_places k (tail_of k c) c - k) (tail_of k c)
    unfolding passes_all ends
    t_parts =
        record {
          w_le = omega arith;
          whole = ap (λ (x : ℕ). tail_of k c * 10 ^ x) (let e : tail_places k (tail_of k c) c - (tail_places k (tail_of k c) c - k) ≡ k = omega (arith, placed_at.low) in e);
          t_lt = t_small;
          odd = λ _. eqb-false (tail_of k c % 10) 0 (not-true _ (both_true _ _ t_passes).0);
        }

    f_below : tail_of k c * 10 ^ k < 10 ^ tail_places k (tail_of k c) c
    f_below =
        let a : tail_of k c * 10 ^ k < 10 ^ (tail_places k (tail_of k c) c - k) * 10 ^ k = mul-lt-mul_of_pos_right t_small (power_pos k) in
        let b = pow-add 10 (tail_places k (tail_of k c) c - k) k in
        let d : 10 ^ (tail_places k (tail_of k c) c - k + k) ≡ 10 ^ tail_places k (tail_of k c) c = ap (λ (x : ℕ). 10 ^ x) (let e : tail_places k (tail_of k c) c - k + k ≡ tail_places k (tail_of k c) c = omega (arith, placed_at.low) in e) in
        omega arith

    f_narrow : tail_of k c * 10 ^ k < 10 ^ max_places
    f_narrow = let m : 10 ^ tail_places k (tail_of k c) c ≤ 10 ^ max_places = power_mono hv in omega (arith, f_below)

    tail_hit : fits (is_tail k) c (tail_places k (tail_of k c) c * 10 ^ max_places + tail_of k c * 10 ^ k) ≡ true
    unfolding fits fraction passes_all
    tail_hit =
        let v_is : v_of (tail_places k (tail_of k c) c * 10 ^ max_places + tail_of k c * 10 ^ k) ≡ tail_places k (tail_of k c) c = omega (arith, f_narrow) in
        let f_is : f_of (tail_places k (tail_of k c) c * 10 ^ max_places + tail_of k c * 10 ^ k) ≡ tail_of k c * 10 ^ k = omega (arith, f_narrow) in
        let p = parts (tail_places k (tail_of k c) c) (tail_of k c * 10 ^ k) f_below in
        ap₂ (λ (v f : ℕ). both (ltb f (10 ^ v)) (both (both (ltb k v) (eqb (w_of v f) (v - k))) (both (all (settled_f v (w_of v f)) c) (all (λ (r : Relation). passes (query_t (v - w_of v f)) r (t_of v f)) c)))) v_is f_is
        ∙ and_true (lt-ltb _ _ f_below)
        (ap₂ (λ (w t : ℕ). both (both (ltb k v) (eqb w (v - k))) (both (all (settled_f v w) c) (all (λ (r : Relation). passes (query_t (v - w)) r t) c))) (parts_w p t_parts) (parts_t p t_parts)
        ∙ and_true (and_true (lt-ltb k v placed_at.low) (eq-eqb (v - k) (v - k) refl))
        (and_true held.0 (ap (λ (x : ℕ). all (λ (r : Relation). passes (query_t x) r (tail_of k c)) c) (let e : v - (v - k) ≡ k = omega (arith, placed_at.low) in e) ∙ (both_true (ends (query_t k) (tail_of k c)) _ t_passes).1)))

  tail_least : Least (fits (is_tail k) c) 0 fractions (tail_code k c)
  unfolding tail_code
  tail_least = choice (Least (fits (is_tail k) c) 0 fractions) (leb (tail_places k (tail_of k c) c) max_places) (λ e. hit (leb-true _ _ e)) (λ e. none (leb-false _ _ e))
    where
      hit : tail_places k (tail_of k c) c ≤ max_places → Least (fits (is_tail k) c) 0 fractions (tail_places k (tail_of k c) c * 10 ^ max_places + tail_of k c * 10 ^ k)
      hit h =
          record {
            low = omega arith;
            high = omega (arith, f_narrow h);
            none = λ j _ b. unfit (is_tail k) c _ no_less j (omega (arith, f_narrow h)) b;
            hit = λ _. tail_hit h;
          }

      none : max_places < tail_places k (tail_of k c) c → Least (fits (is_tail k) c) 0 fractions fractions
      none h = least_none (fits (is_tail k) c) 0 fractions (omega arith) (λ j _ b. unfit (is_tail k) c fractions (λ q l g. let s = no_less_v q l g in omega arith) j b b)

-- ---- f is not 0

unfoldable pub part_fits : ℕ → List Relation → ℕ → Bool
part_fits zero c q = false
part_fits (suc k) c q = either (part_fits k c q) (fits (is_tail k) c q)

part_least : (c : List Relation) (n : ℕ) → n ≤ max_places → Least (part_fits n c) 0 fractions (part_code n c)
unfolding part_fits part_code
part_least c zero h = least_none (λ _. false) 0 fractions (omega arith) (λ j a b. refl)
part_least c (suc n) h = least_or (part_least c n (omega arith)) (tail_least n (omega arith) c)

-- ---- either kind

unfoldable pub kind_fits : Bool → List Relation → ℕ → Bool
kind_fits whole c q = elim whole [ true ↦ fits is_whole c q | false ↦ part_fits max_places c q ]

pub kind_least : (whole : Bool) (c : List Relation) → Least (kind_fits whole c) 0 fractions (fraction_code whole c)
unfolding kind_fits fraction_code
kind_least true c = whole_least c
kind_least false c = part_least c max_places (omega arith)

-- at one v and f: its kind is that of its w
module _ (c : List Relation) (q : ℕ) (hq : q < fractions) where
  abbrev G : Bool
  G = fraction (v_of q) (W q) c (T q)

  fits_other : (K : ℕ → ℕ → Bool) → K (v_of q) (W q) ≡ false → fits K c q ≡ false
  unfolding fits
  fits_other K e = and_false_right (ltb (f_of q) (10 ^ v_of q)) (and_false_left G e)

  fits_long : (K : ℕ → ℕ → Bool) → ltb (f_of q) (10 ^ v_of q) ≡ false → fits K c q ≡ false
  unfolding fits
  fits_long K e = and_false_left (both (K (v_of q) (W q)) G) e

  fits_own : (K : ℕ → ℕ → Bool) → ltb (f_of q) (10 ^ v_of q) ≡ true → K (v_of q) (W q) ≡ true → fits K c q ≡ G
  unfolding fits
  fits_own K e f = ap₂ (λ (a b : Bool). both a (both b G)) e f

  -- too long a fraction is of no kind
  part_long : ltb (f_of q) (10 ^ v_of q) ≡ false → (n : ℕ) → part_fits n c q ≡ false
  unfolding part_fits
  part_long e zero = refl
  part_long e (suc n) = or_false (part_long e n) (fits_long (is_tail n) e)

  pub kind_long : ltb (f_of q) (10 ^ v_of q) ≡ false → (whole : Bool) → kind_fits whole c q ≡ false
  unfolding kind_fits
  kind_long e true = fits_long is_whole e
  kind_long e false = part_long e max_places

  module _ (h : f_of q < 10 ^ v_of q) where
    p : Parts (v_of q) (f_of q) (W q) (T q)
    p = parts (v_of q) (f_of q) h

    not_tail : (k : ℕ) → (W q ≡ 0) ⊎ (k < v_of q - W q) → is_tail k (v_of q) (W q) ≡ false
    not_tail k a =
        tested (ltb k (v_of q))
        (λ e. and_false_right (ltb k (v_of q)) (ne_eqb (W q) (v_of q - k) (λ z. let l = ltb-true k (v_of q) e in let m = p.w_le in ⊎_elim (λ b. omega arith) (λ b. omega arith) a)))
        (λ e. and_false_left (eqb (W q) (v_of q - k)) e)

    part_other : (n : ℕ) → (W q ≡ 0) ⊎ (n ≤ v_of q - W q) → part_fits n c q ≡ false
    unfolding part_fits
    part_other zero a = refl
    part_other (suc n) a =
        or_false (part_other n (⊎_elim ◌⊎◌.inl (λ b. ◌⊎◌.inr (omega arith)) a))
        (fits_other (is_tail n) (not_tail n (⊎_elim ◌⊎◌.inl (λ b. ◌⊎◌.inr (omega arith)) a)))

    part_own : (n : ℕ) → (W q ≡ 0 → ⊥) → v_of q - W q < n → part_fits n c q ≡ G
    unfolding part_fits
    part_own zero z a = absurd (omega arith)
    part_own (suc n) z a =
        ⊎_elim (λ b. ap₂ either (part_own n z b) (fits_other (is_tail n) (past b)) ∙ or_none G)
        (λ b. ap₂ either (part_other n (◌⊎◌.inr (omega arith))) (fits_own (is_tail n) (lt-ltb _ _ h) (here b)))
        (split (v_of q - W q) n)
      where
        or_none : (a : Bool) → either a false ≡ a
        or_none true = refl
        or_none false = refl

        past : v_of q - W q < n → is_tail n (v_of q) (W q) ≡ false
        past b =
            tested (ltb n (v_of q))
            (λ e. and_false_right (ltb n (v_of q)) (ne_eqb (W q) (v_of q - n) (λ y. let l = ltb-true n (v_of q) e in let m = p.w_le in omega arith)))
            (λ e. and_false_left (eqb (W q) (v_of q - n)) e)

        here : n ≤ v_of q - W q → is_tail n (v_of q) (W q) ≡ true
        here b =
            let m = p.w_le in
            let y : 0 < W q = ⊎_elim (λ k. absurd (z (omega arith))) (λ k. k) (split (W q) 1) in
            and_true (lt-ltb n (v_of q) (omega arith)) (eq-eqb (W q) (v_of q - n) (omega arith))

    -- of the two kinds, each with a test of its own, only that of w counts
    pub kind_is : (I : Bool → Bool) → either (both (kind_fits true c q) (I true)) (both (kind_fits false c q) (I false)) ≡ both (fraction (v_of q) (W q) c (T q)) (I (eqb (W q) 0))
    unfolding kind_fits
    kind_is I = tested (eqb (W q) 0) none some
      where
        left : (a : Bool) → either a false ≡ a
        left true = refl
        left false = refl

        none : eqb (W q) 0 ≡ true → either (both (fits is_whole c q) (I true)) (both (part_fits max_places c q) (I false)) ≡ both (fraction (v_of q) (W q) c (T q)) (I (eqb (W q) 0))
        none e =
            ap₂ (λ (a b : Bool). either (both a (I true)) (both b (I false))) (fits_own is_whole (lt-ltb _ _ h) e) (part_other max_places (◌⊎◌.inl (eqb-true (W q) 0 e)))
            ∙ left (both G (I true)) ∙ ap (λ (b : Bool). both G (I b)) (sym e)

        some : eqb (W q) 0 ≡ false → either (both (fits is_whole c q) (I true)) (both (part_fits max_places c q) (I false)) ≡ both (fraction (v_of q) (W q) c (T q)) (I (eqb (W q) 0))
        some e =
            let z = eqb-false (W q) 0 e in
            let y : 0 < W q = ⊎_elim (λ k. absurd (z (omega arith))) (λ k. k) (split (W q) 1) in
            ap₂ (λ (a b : Bool). either (both a (I true)) (both b (I false))) (fits_other is_whole e) (part_own max_places z (let m = p.w_le in omega arith))
            ∙ ap (λ (b : Bool). both G (I b)) (sym e)
