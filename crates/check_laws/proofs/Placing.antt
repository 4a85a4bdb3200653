-- What the code of v and f works out: the least v in turn, and the least v and f as one number.
use mathlib.Core.Path.{◌≡◌, refl, sym, ap, ap₂, subst, ◌∙◌}
use mathlib.Core.Bool.{Bool, true, false, not}
use mathlib.Core.List.{List, [], ◌∷◌}
use mathlib.Core.Logic.{⊎_elim}
use Prim.Native.Nat.{ℕ, zero, suc, ◌+◌, ◌-◌, ◌*◌, ◌%◌, ◌^◌, ◌≤◌, ◌<◌, min}
use native.Mathlib.Omega.{arith}
use native.Mathlib.Nat.{mul-le-mul_right}
use native.Mathlib.Numerals.{add-one}
use lib.Pow.{pow-add}
use lib.Dec.{ltb, leb, eqb}
use borrow.Author.Tests.{le-leb, lt-leb, ltb-true}
use Rattle.std.specs.Prelude.{if◌then◌else◌}
use Rattle.decimal.specs.Choice.{both}
use Rattle.decimal.proofs.Choices.{not_both, either_false, both_true}
use Rattle.decimal.proofs.Values.{power_mono}
use Rattle.decimal.specs.Lists.{all}
use Rattle.number.specs.Limits.{max_places}
use Rattle.pack_rules.specs.Syntax.{Relation}
use Rattle.check_laws.specs.Seek.{Least, seek}
use Rattle.check_laws.proofs.Seeking.{split, and_true, least_one, seek_least}
use Rattle.check_laws.specs.Fast.{factor, test, ends, passes_all, alone, alone_of, asks_of, query_t, passes, search, settled_f, fractions, whole_code, tail_of, tail_places, tail_code, part_code, fraction_code}
use Rattle.check_laws.proofs.Searched.{search_least}

-- ---- a test in turn

module _ (P : ℕ → Bool) (n lo : ℕ) where
  -- none before e passes
  abbrev pub Before : ℕ → Type 0
  Before e = (lo ≤ e) × ((j : ℕ) → lo ≤ j → j < e → P j ≡ false)

  pub before_start : (e : ℕ) → e ≡ lo → Before e
  before_start e h = (omega arith, λ j a b. absurd (omega arith))

  pub before_more : (e : ℕ) (b : Bool) → Before e → b ≡ P e → b ≡ false → Before (e + 1)
  before_more e b h g f =
      (omega (arith, h.0), λ j u v. ⊎_elim (h.1 j u) (λ k. subst (λ (x : ℕ). P x ≡ false) (let z : e ≡ j = omega arith in z) (sym g ∙ f)) (split j e))

  pub seek_at : (e : ℕ) (b : Bool) → Before e → e < lo + n → b ≡ P e → b ≡ true → e ≡ seek P n lo
  seek_at e b h l g f = least_one (record { low = h.0; high = omega arith; none = h.1; hit = λ _. sym g ∙ f }) (seek_least P n lo)

  pub seek_none : (e : ℕ) → Before e → e ≡ lo + n → e ≡ seek P n lo
  seek_none e h g = least_one (record { low = h.0; high = omega arith; none = h.1; hit = λ k. absurd (omega arith) }) (seek_least P n lo)

pub both_no : (x y a : Bool) → a ≡ x → a ≡ false → false ≡ both x y
both_no x y a e f = sym (ap (λ (z : Bool). both z y) (sym e ∙ f))

pub both_yes : (x y a : Bool) {b : Bool} → a ≡ x → a ≡ true → b ≡ y → b ≡ both x y
both_yes x y a e f g = g ∙ sym (ap (λ (z : Bool). both z y) (sym e ∙ f))

-- ---- f is 0

module _ (c : List Relation) where
  pub whole_none : (b : Bool) → b ≡ all (λ (r : Relation). passes (query_t 0) r 0) c → b ≡ false → fractions ≡ whole_code c
  unfolding whole_code
  whole_none b e f = sym (ap (λ (x : Bool). elim x [ true ↦ seek (λ v. all (settled_f v 0) c) (suc max_places) 0 * 10 ^ max_places | false ↦ fractions ]) (sym e ∙ f))

  pub whole_some : (b : Bool) (v : ℕ) → b ≡ all (λ (r : Relation). passes (query_t 0) r 0) c → b ≡ true → v ≡ seek (λ v. all (settled_f v 0) c) (suc max_places) 0 → v * 10 ^ max_places ≡ whole_code c
  unfolding whole_code
  whole_some b v e f g =
      ap (λ (x : ℕ). x * 10 ^ max_places) g
      ∙ sym (ap (λ (x : Bool). elim x [ true ↦ seek (λ v. all (settled_f v 0) c) (suc max_places) 0 * 10 ^ max_places | false ↦ fractions ]) (sym e ∙ f))

-- ---- f ends in k zeros

module _ (k : ℕ) (hk : k < max_places) (c : List Relation) where
  abbrev Good : ℕ → ℕ → Bool
  Good t v = both (all (settled_f v (v - k)) c) (ltb t (10 ^ (v - k)))

  pub sought : (t : ℕ) → Least (λ v. both (all (settled_f v (v - k)) c) (ltb t (10 ^ (v - k)))) (suc k) (suc k + (max_places - k)) (tail_places k t c)
  unfolding tail_places
  sought t = seek_least (λ v. both (all (settled_f v (v - k)) c) (ltb t (10 ^ (v - k)))) (max_places - k) (suc k)

  -- no v is settled: then none has room
  pub tail_unsettled : (v : ℕ) → v ≡ seek (λ v. all (settled_f v (v - k)) c) (max_places - k) (suc k) → max_places < v → fractions ≡ tail_code k c
  unfolding tail_code
  tail_unsettled v e h =
      let l = seek_least (λ v. all (settled_f v (v - k)) c) (max_places - k) (suc k) in
      let g : max_places < tail_places k (tail_of k c) c =
      ⊎_elim (λ z. z)
      (λ z. not_both (both_true _ _ ((sought (tail_of k c)).hit (omega arith))).0 (l.none (tail_places k (tail_of k c) c) (sought (tail_of k c)).low (omega arith)))
      (split max_places (tail_places k (tail_of k c) c)) in
      rw (lt-leb (tail_places k (tail_of k c) c) max_places g)

  pub tail_none : (t v : ℕ) → t ≡ tail_of k c → v ≡ tail_places k t c → max_places < v → fractions ≡ tail_code k c
  unfolding tail_code
  tail_none t v e g h =
      let z : v ≡ tail_places k (tail_of k c) c = g ∙ ap (λ (x : ℕ). tail_places k x c) e in
      rw (lt-leb (tail_places k (tail_of k c) c) max_places (omega arith))

  pub tail_some : (t v p : ℕ) → t ≡ tail_of k c → v ≡ tail_places k t c → v ≤ max_places → p ≡ 10 ^ k → v * 10 ^ max_places + t * p ≡ tail_code k c
  unfolding tail_code
  tail_some t v p e g h q =
      let z : v ≡ tail_places k (tail_of k c) c = g ∙ ap (λ (x : ℕ). tail_places k x c) e in
      rw (le-leb (tail_places k (tail_of k c) c) max_places (omega arith)) (ap₂ (λ (x y : ℕ). x * 10 ^ max_places + y) z (ap₂ ◌*◌ e q))

  -- t and its zeros fit
  pub tail_room : (t p : ℕ) → t ≡ tail_of k c → p ≡ 10 ^ k → t * p ≤ 10 ^ max_places
  unfolding tail_of
  tail_room t p e q =
      let l = search_least (query_t k) c 0 (10 ^ (max_places - k)) (omega arith) in
      let m : t * 10 ^ k ≤ 10 ^ (max_places - k) * 10 ^ k = mul-le-mul_right (10 ^ k) (omega (arith, l.high)) in
      let s : 10 ^ (max_places - k) * 10 ^ k ≡ 10 ^ max_places = sym (pow-add 10 (max_places - k) k) ∙ ap (λ (x : ℕ). 10 ^ x) (let z : max_places - k + k ≡ max_places = omega arith in z) in
      subst (λ (x : ℕ). t * x ≤ 10 ^ max_places) (sym q) (omega arith)

  -- its places are more than its zeros
  pub tail_ge : suc k * 10 ^ max_places ≤ tail_code k c
  unfolding tail_code
  tail_ge = go (leb (tail_places k (tail_of k c) c) max_places) (mul-le-mul_right (10 ^ max_places) (sought (tail_of k c)).low)
    where
      go : (b : Bool) → suc k * 10 ^ max_places ≤ tail_places k (tail_of k c) c * 10 ^ max_places
          → suc k * 10 ^ max_places ≤ (if b then tail_places k (tail_of k c) c * 10 ^ max_places + tail_of k c * 10 ^ k else fractions)
      go true h = omega arith
      go false h = omega arith

-- ---- what is asked of t alone

one_alone : (k x : ℕ) (r : Relation) → passes (query_t k) r x ≡ true → passes alone r x ≡ true
unfolding passes factor
one_alone k x r = go (eqb r.operand 110) (eqb r.operand 105) (eqb r.operand 102) (eqb r.operand 116)
  where
    by : ℕ → (a b c d : Bool) → ℕ
    by f a b c d = if a then 0 else if b then 0 else if c then f else if d then 1 else 0

    go : (a b c d : Bool) → (if not (eqb (by (10 ^ k) a b c d) 0) then test r (x * by (10 ^ k) a b c d) else true) ≡ true
        → (if not (eqb (by 0 a b c d) 0) then test r (x * by 0 a b c d) else true) ≡ true
    go true b c d h = refl
    go false true c d h = refl
    go false false true d h = refl
    go false false false true h = h
    go false false false false h = refl

each_alone : (k x : ℕ) (c : List Relation) → all (λ (r : Relation). passes (query_t k) r x) c ≡ true → all (λ (r : Relation). passes alone r x) c ≡ true
each_alone k x [] h = refl
each_alone k x (r ∷ rs) h =
    let b = both_true (passes (query_t k) r x) (all (λ (r : Relation). passes (query_t k) r x) rs) h in
    and_true (one_alone k x r b.0) (each_alone k x rs b.1)

pub all_alone : (k x : ℕ) (c : List Relation) → passes_all (query_t k) c x ≡ true → passes_all alone c x ≡ true
unfolding passes_all ends
all_alone k x c h =
    let b = both_true (not (eqb (x % 10) 0)) (all (λ (r : Relation). passes (query_t k) r x) c) h in
    and_true b.0 (each_alone k x c b.1)

module _ (c : List Relation) (t : ℕ) (e : t ≡ alone_of c) (h : 10 ^ max_places ≤ t) (k : ℕ) (hk : k < max_places) where
  tail_far : 10 ^ (max_places - k) ≤ tail_of k c
  unfolding tail_of alone_of
  tail_far =
      let l = search_least alone c 0 (10 ^ max_places) (omega arith) in
      let g = search_least (query_t k) c 0 (10 ^ (max_places - k)) (omega arith) in
      let b : 10 ^ (max_places - k) ≤ 10 ^ max_places = power_mono {j = max_places} (omega arith) in
      ⊎_elim
      (λ z. not_both (all_alone k (search (query_t k) c 0 (10 ^ (max_places - k))) c (g.hit z)) (l.none (search (query_t k) c 0 (10 ^ (max_places - k))) (omega arith) (omega arith)))
      (λ z. z) (split (search (query_t k) c 0 (10 ^ (max_places - k))) (10 ^ (max_places - k)))

  pub no_tail : tail_code k c ≡ fractions
  no_tail =
      sym (tail_none k hk c (tail_of k c) (tail_places k (tail_of k c) c) refl refl
      (⊎_elim (λ z. z)
      (λ z.
      let d = both_true (all (settled_f (tail_places k (tail_of k c) c) (tail_places k (tail_of k c) c - k)) c) (ltb (tail_of k c) (10 ^ (tail_places k (tail_of k c) c - k))) ((sought k hk c (tail_of k c)).hit (omega arith)) in
      let b : 10 ^ (tail_places k (tail_of k c) c - k) ≤ 10 ^ (max_places - k) = power_mono {j = max_places - k} (omega arith) in
      absurd (omega (arith, ltb-true (tail_of k c) (10 ^ (tail_places k (tail_of k c) c - k)) d.1, tail_far)))
      (split max_places (tail_places k (tail_of k c) c))))

-- ---- where no relation asks f

one_same : (k x : ℕ) (r : Relation) → eqb r.operand 102 ≡ false → passes (query_t k) r x ≡ passes alone r x
unfolding passes factor
one_same k x r n = rw n

each_same : (k x : ℕ) (c : List Relation) → asks_of 102 c ≡ false → all (λ (r : Relation). passes (query_t k) r x) c ≡ all (λ (r : Relation). passes alone r x) c
each_same k x [] h = refl
each_same k x (r ∷ rs) h =
    let n = either_false (eqb r.operand 102) (asks_of 102 rs) h in
    ap₂ both (one_same k x r n.0) (each_same k x rs n.1)

all_same : (k x : ℕ) (c : List Relation) → asks_of 102 c ≡ false → passes_all (query_t k) c x ≡ passes_all alone c x
unfolding passes_all ends
all_same k x c h = ap (both (not (eqb (x % 10) 0))) (each_same k x c h)

-- the t by what is asked of t alone is that before k zeros, where it has room
pub tail_once : (c : List Relation) (k t p r : ℕ) (a : Bool) → k < max_places → t ≡ alone_of c → a ≡ asks_of 102 c → a ≡ false → p ≡ 10 ^ (max_places - k) → r ≡ min t p → r ≡ tail_of k c
unfolding alone_of tail_of
tail_once c k t p r a hk e g f q m =
    let l = search_least alone c 0 (10 ^ max_places) (omega arith) in
    let b : 10 ^ (max_places - k) ≤ 10 ^ max_places = power_mono {j = max_places} (omega arith) in
    let n = sym g ∙ f in
    let T = search alone c 0 (10 ^ max_places) in
    m ∙ ap₂ min e q
    ∙ least_one
    (record {
      low = omega arith;
      high = omega arith;
      none = λ j u v. all_same k j c n ∙ l.none j u (omega arith);
      hit = λ u. subst (λ (x : ℕ). passes_all (query_t k) c x ≡ true) (let z : T ≡ min T (10 ^ (max_places - k)) = omega arith in z) (all_same k T c n ∙ l.hit (omega arith));
    })
    (search_least (query_t k) c 0 (10 ^ (max_places - k)) (omega arith))

-- ---- a search for t

pub alone_is : (r : ℕ) (c : List Relation) → r ≡ search alone c 0 (10 ^ max_places) → r ≡ alone_of c
unfolding alone_of
alone_is r c h = h

pub tail_is : (k p e r : ℕ) (c : List Relation) → p ≡ 10 ^ k → e ≡ 10 ^ (max_places - k) → r ≡ search (record { n = 0; i = 0; f = p; t = 1; odd = true }) c 0 e → r ≡ tail_of k c
unfolding tail_of
tail_is k p e r c g f h = h ∙ ap₂ (λ (x y : ℕ). search (record { n = 0; i = 0; f = x; t = 1; odd = true }) c 0 y) g f

-- ---- f is not 0

module _ (c : List Relation) where
  pub part_start : fractions ≡ part_code 0 c
  unfolding part_code
  part_start = refl

  -- no t alone: then none before zeros
  pub part_none : (t : ℕ) → t ≡ alone_of c → 10 ^ max_places ≤ t → fractions ≡ part_code max_places c
  unfolding part_code
  part_none t e l = sym (go max_places (omega arith))
    where
      go : (n : ℕ) → n ≤ max_places → part_code n c ≡ fractions
      go zero h = refl
      go (suc n) h = let a = go n (omega arith) in let b = no_tail c t e l n (omega arith) in omega arith

  pub part_more : (best y z k : ℕ) → best ≡ part_code k c → y ≡ tail_code k c → z ≡ min best y → z ≡ part_code (k + 1) c
  unfolding part_code
  part_more best y z k e f g = rw (add-one k) (g ∙ ap₂ min e f)

  -- nothing with more zeros comes before
  stays : (n k : ℕ) → k + n ≤ max_places → part_code k c ≤ suc k * 10 ^ max_places → part_code (k + n) c ≡ part_code k c
  unfolding part_code
  stays zero k h l = ap (λ (x : ℕ). part_code x c) (let z : k + 0 ≡ k = omega arith in z)
  stays (suc n) k h l =
      let i = stays n k (omega arith) l in
      let g = tail_ge (k + n) (omega arith) c in
      let m : suc k * 10 ^ max_places ≤ suc (k + n) * 10 ^ max_places = mul-le-mul_right (10 ^ max_places) (omega arith) in
      ap (λ (x : ℕ). part_code x c) (let z : k + suc n ≡ suc (k + n) = omega arith in z) ∙ (let z : min (part_code (k + n) c) (tail_code (k + n) c) ≡ part_code k c = omega arith in z)

  pub part_stop : (best k : ℕ) → best ≡ part_code k c → k < max_places → best ≤ (k + 1) * 10 ^ max_places → best ≡ part_code max_places c
  part_stop best k e h l =
      e ∙ sym (ap (λ (x : ℕ). part_code x c) (let z : max_places ≡ k + (max_places - k) = omega arith in z)
      ∙ stays (max_places - k) k (omega arith) (subst (λ (x : ℕ). x ≤ suc k * 10 ^ max_places) e (subst (λ (x : ℕ). best ≤ x * 10 ^ max_places) (add-one k) l)))

  pub part_end : (best k : ℕ) → best ≡ part_code k c → k ≡ max_places → best ≡ part_code max_places c
  part_end best k e h = e ∙ ap (λ (x : ℕ). part_code x c) h

  pub code_whole : (w : Bool) (r : ℕ) → w ≡ true → r ≡ whole_code c → r ≡ fraction_code w c
  unfolding fraction_code
  code_whole w r e h = rw e h

  pub code_part : (w : Bool) (r : ℕ) → w ≡ false → r ≡ part_code max_places c → r ≡ fraction_code w c
  unfolding fraction_code
  code_part w r e h = rw e h

-- ---- where no w other than 0 is settled with a v that is no less

abbrev pub Place : ℕ → Type 0
Place x = (1 ≤ x) × (x ≤ max_places)

tail_shut : (c : List Relation) → ((v w : ℕ) → Place v → Place w → w ≤ v → all (settled_f v w) c ≡ false) → (k : ℕ) → k < max_places → fractions ≡ tail_code k c
tail_shut c f k hk =
    let s = seek (λ v. all (settled_f v (v - k)) c) (max_places - k) (suc k) in
    let l = seek_least (λ v. all (settled_f v (v - k)) c) (max_places - k) (suc k) in
    tail_unsettled k hk c s refl
    (⊎_elim (λ z. z)
    (λ z. not_both (l.hit (omega arith)) (f s (s - k) (omega (arith, l.low), z) (omega (arith, l.low), omega arith) (omega arith)))
    (split max_places s))

pub part_shut : (c : List Relation) → ((v w : ℕ) → Place v → Place w → w ≤ v → all (settled_f v w) c ≡ false) → fractions ≡ part_code max_places c
unfolding part_code
part_shut c shut = sym (go max_places (omega arith))
  where
    go : (n : ℕ) → n ≤ max_places → part_code n c ≡ fractions
    go zero h = refl
    go (suc n) h = let x = go n (omega arith) in let y = tail_shut c shut n (omega arith) in omega arith

-- ---- the names of what is sought

pub places_is : (r k t : ℕ) (c : List Relation) → r ≡ seek (λ v. both (all (settled_f v (v - k)) c) (ltb t (10 ^ (v - k)))) (max_places - k) (suc k) → r ≡ tail_places k t c
unfolding tail_places
places_is r k t c h = h
