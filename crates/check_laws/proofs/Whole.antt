-- Where the least number whose f is 0 comes before every one whose f is not.
use mathlib.Core.Path.{◌≡◌, refl, sym, ap, subst, ◌∙◌}
use mathlib.Core.Bool.{Bool, true, false}
use mathlib.Core.List.{List}
use mathlib.Core.Logic.{◌⊎◌, ⊎_elim, inl, inr}
use Prim.Native.Nat.{ℕ, zero, suc, ◌+◌, ◌-◌, ◌*◌, ◌^◌, ◌≤◌, ◌<◌, min}
use native.Mathlib.Omega.{arith}
use native.Mathlib.Nat.{mul-le-mul_right}
use lib.Dec.{leb, ltb}
use borrow.Author.Tests.{lt-ltb, le-ltb, leb-true}
use Rattle.std.specs.Prelude.{if◌then◌else◌}
use Rattle.decimal.proofs.Choices.{tested, not_both, both_true}
use Rattle.decimal.specs.Lists.{all}
use Rattle.number.specs.Limits.{max_exponent, max_digits, max_places}
use Rattle.pack_rules.specs.Syntax.{Relation}
use Rattle.check_laws.specs.Seek.{seek}
use Rattle.check_laws.proofs.Seeking.{split, and_true, seek_least}
use Rattle.check_laws.specs.Check.{lowest, block, ranks}
use Rattle.check_laws.specs.Fast.{query_i, query_t, passes, ends, passes_all, search, asks_of, settled_v, settled_w, settled_f, exponent_of, fractions, whole_code, tail_of, tail_places, tail_code, part_code, fraction_code, integer_of, placed, kind_rank, clause_rank}
use Rattle.check_laws.proofs.FastIs.{lowest_le, least_same}
use Rattle.check_laws.proofs.Flooring.{each_kind}
use Rattle.check_laws.proofs.Placing.{tail_ge, sought}
use Rattle.check_laws.proofs.Profiles.{both_all}
use Rattle.check_laws.proofs.Searched.{search_least, least_search}
use Rattle.check_laws.proofs.Spotting.{KindSays, clause_some, some_fraction, kind_no_fraction}

-- the number whose f is 0 is the clause's
pub clause_whole : (c : List Relation) (e x : ℕ) → e ≡ exponent_of c → e ≤ max_exponent → KindSays true e c x → kind_rank true e c ≤ kind_rank false e c → x ≡ clause_rank c
clause_whole c e x g h k l =
    clause_some c e x (if ltb (kind_rank false e c) block then e * block + kind_rank false e c else ranks) x g h k refl
    (subst (λ (y : ℕ). y ≡ min y (if ltb (kind_rank false e c) block then e * block + kind_rank false e c else ranks)) (sym k) (go (kind_rank true e c) (kind_rank false e c) l))
  where
    go : (p q : ℕ) → p ≤ q → (if ltb p block then e * block + p else ranks) ≡ min (if ltb p block then e * block + p else ranks) (if ltb q block then e * block + q else ranks)
    go p q a =
        ⊎_elim
        (λ b. ⊎_elim (λ d. rw (lt-ltb p block b, lt-ltb q block d) (omega arith))
        (λ d. let m : suc e * block ≤ suc max_exponent * block = mul-le-mul_right block (let z : suc e ≤ suc max_exponent = omega arith in z) in rw (lt-ltb p block b, le-ltb q block d) (omega arith))
        (split q block))
        (λ b. rw (le-ltb p block b, le-ltb q block (let z : block ≤ q = omega arith in z)) (omega arith))
        (split p block)

-- there is no number whose f is 0
pub clause_part : (c : List Relation) (e q y : ℕ) → e ≡ exponent_of c → e ≤ max_exponent → q ≡ fraction_code true c → fractions ≤ q → KindSays false e c y → y ≤ ranks → y ≡ clause_rank c
clause_part c e q y g h f l k b = clause_some c e ranks y y g h (kind_no_fraction true e c q ranks f l refl) k (omega arith)

-- ---- a kind's rank

module _ (w : Bool) (e : ℕ) (c : List Relation) where
  no_fraction : fractions ≤ fraction_code w c → kind_rank w e c ≡ block
  unfolding kind_rank
  no_fraction h = ap (λ (b : Bool). elim b [ true ↦ if ltb (integer_of w e c) (10 ^ max_digits) then placed (fraction_code w c) (integer_of w e c) else block | false ↦ block ]) (le-ltb (fraction_code w c) fractions h)

  no_integer : fraction_code w c < fractions → 10 ^ max_digits ≤ integer_of w e c → kind_rank w e c ≡ block
  no_integer h k = some_fraction w e c (fraction_code w c) refl h ∙ ap (λ (b : Bool). if b then placed (fraction_code w c) (integer_of w e c) else block) (le-ltb (integer_of w e c) (10 ^ max_digits) k)

  both_found : fraction_code w c < fractions → integer_of w e c < 10 ^ max_digits → kind_rank w e c ≡ placed (fraction_code w c) (integer_of w e c)
  both_found h k = some_fraction w e c (fraction_code w c) refl h ∙ ap (λ (b : Bool). if b then placed (fraction_code w c) (integer_of w e c) else block) (lt-ltb (integer_of w e c) (10 ^ max_digits) k)

  -- there is none, or it is past all that have fewer places or, with as many, a lower i
  past : (v i : ℕ) → v * 10 ^ max_places ≤ fraction_code w c → i ≤ integer_of w e c → (kind_rank w e c ≡ block) ⊎ ((v * 10 ^ max_digits + i) * 10 ^ max_places ≤ kind_rank w e c)
  past v i h k =
      ⊎_elim
      (λ a. ⊎_elim
      (λ b. inr (subst (λ (x : ℕ). (v * 10 ^ max_digits + i) * 10 ^ max_places ≤ x) (sym (both_found a b)) (further (fraction_code w c) (integer_of w e c) h k)))
      (λ b. inl (no_integer a b)) (split (integer_of w e c) (10 ^ max_digits)))
      (λ a. inl (no_fraction a)) (split (fraction_code w c) fractions)
    where
      further : (q j : ℕ) → v * 10 ^ max_places ≤ q → i ≤ j → (v * 10 ^ max_digits + i) * 10 ^ max_places ≤ placed q j
      further q j a b = omega arith

-- ---- f is 0 and v is 0: where f is not 0, v is not

module _ (c : List Relation) where
  part_ge : (n : ℕ) → n ≤ max_places → 10 ^ max_places ≤ part_code n c
  unfolding part_code
  part_ge zero h = omega arith
  part_ge (suc n) h =
      let a = part_ge n (omega arith) in
      let b = tail_ge n (omega arith) c in
      let d : 1 * 10 ^ max_places ≤ suc n * 10 ^ max_places = mul-le-mul_right (10 ^ max_places) (let z : 1 ≤ suc n = omega arith in z) in
      omega arith

  pub no_places_first : (e i : ℕ) → fraction_code true c ≡ 0 → i ≡ integer_of true e c → i < 10 ^ max_digits → kind_rank true e c ≤ kind_rank false e c
  unfolding fraction_code
  no_places_first e i q f h =
      let a : kind_rank true e c ≡ placed (whole_code c) (integer_of true e c) = both_found true e c (omega arith) (omega arith) in
      let b : kind_rank true e c ≡ integer_of true e c * 10 ^ max_places = a ∙ ap (λ (x : ℕ). placed x (integer_of true e c)) q ∙ flat (integer_of true e c) in
      ⊎_elim (λ k. omega arith) (λ k. omega arith) (past false e c 1 0 (omega (arith, part_ge max_places (omega arith))) (omega arith))
    where
      flat : (j : ℕ) → placed 0 j ≡ j * 10 ^ max_places
      flat j = omega arith

-- ---- n is not asked: i is the same whether f is 0 or not

module _ (c : List Relation) where
  same_integer : (e : ℕ) → e ≤ max_exponent → asks_of 110 c ≡ false → integer_of true e c ≡ integer_of false e c
  unfolding integer_of passes_all ends
  same_integer e h n =
      least_search (query_i false) c (lowest e) (10 ^ max_digits) (search (query_i true) c (lowest e) (10 ^ max_digits)) (lowest_le e h)
      (least_same (λ x. sym (each_kind x c n)) (search_least (query_i true) c (lowest e) (10 ^ max_digits) (lowest_le e h)))

  v₀ : ℕ
  v₀ = seek (λ v. all (settled_f v 0) c) (suc max_places) 0

  whole_is : whole_code c < fractions → whole_code c ≡ v₀ * 10 ^ max_places
  unfolding whole_code v₀
  whole_is = go (all (λ (r : Relation). passes (query_t 0) r 0) c)
    where
      go : (b : Bool) → elim b [ true ↦ v₀ * 10 ^ max_places | false ↦ fractions ] < fractions → elim b [ true ↦ v₀ * 10 ^ max_places | false ↦ fractions ] ≡ v₀ * 10 ^ max_places
      go true h = refl
      go false h = absurd (omega arith)

  -- each v that is settled is settled where f is 0 too
  after : v₀ ≤ max_places → (v w : ℕ) → v ≤ max_places → all (settled_f v w) c ≡ true → v₀ ≤ v
  unfolding v₀
  after h v w k s =
      let l = seek_least (λ v. all (settled_f v 0) c) (suc max_places) 0 in
      let z = both_true (all (settled_v v₀) c) (all (settled_w 0) c) (sym (both_all v₀ 0 c) ∙ l.hit (omega arith)) in
      let y = both_true (all (settled_v v) c) (all (settled_w w) c) (sym (both_all v w c) ∙ s) in
      ⊎_elim (λ a. not_both (both_all v 0 c ∙ and_true y.0 z.1) (l.none v (omega arith) a)) (λ a. a) (split v v₀)

  tail_after : v₀ ≤ max_places → (k : ℕ) → k < max_places → v₀ * 10 ^ max_places ≤ tail_code k c
  unfolding tail_code
  tail_after h k hk =
      let t = tail_of k c in
      let v = tail_places k t c in
      tested (leb v max_places)
      (λ z.
      let b = both_true (all (settled_f v (v - k)) c) (ltb t (10 ^ (v - k))) ((sought k hk c t).hit (let a = leb-true v max_places z in omega arith)) in
      let m : v₀ * 10 ^ max_places ≤ v * 10 ^ max_places = mul-le-mul_right (10 ^ max_places) (after h v (v - k) (leb-true v max_places z) b.0) in
      rw z (omega arith))
      (λ z. rw z (omega arith))

  part_after : v₀ ≤ max_places → (n : ℕ) → n ≤ max_places → v₀ * 10 ^ max_places ≤ part_code n c
  unfolding part_code
  part_after h zero k = omega arith
  part_after h (suc n) k = let a = part_after h n (omega arith) in let b = tail_after h n (omega arith) in omega arith

  pub n_unasked_first : (e : ℕ) → e ≤ max_exponent → fraction_code true c < fractions → asks_of 110 c ≡ false → kind_rank true e c ≤ kind_rank false e c
  unfolding fraction_code
  n_unasked_first e h q n =
      let s = same_integer e h n in
      let w = whole_is q in
      ⊎_elim
      (λ i.
      let a : kind_rank true e c ≡ placed (whole_code c) (integer_of true e c) = both_found true e c q i in
      let b : kind_rank true e c ≡ (v₀ * 10 ^ max_digits + integer_of true e c) * 10 ^ max_places = a ∙ ap (λ (x : ℕ). placed x (integer_of true e c)) w ∙ level v₀ (integer_of true e c) in
      let v = small v₀ (subst (λ (x : ℕ). x < fractions) w q) in
      ⊎_elim (λ k. below _ _ _ _ b k (within v₀ (integer_of true e c) v i)) (λ k. subst (λ (x : ℕ). x ≤ kind_rank false e c) (sym b) k) (past false e c v₀ (integer_of true e c) (part_after v max_places (omega arith)) (subst (λ (x : ℕ). integer_of true e c ≤ x) s (omega arith))))
      (λ i.
      ⊎_elim (λ k. let a = no_integer false e c k (omega arith) in let b = no_integer true e c q i in omega arith)
      (λ k. let a = no_fraction false e c k in let b = no_integer true e c q i in omega arith)
      (split (part_code max_places c) fractions))
      (split (integer_of true e c) (10 ^ max_digits))
    where
      small : (v : ℕ) → v * 10 ^ max_places < fractions → v ≤ max_places
      small v a = omega arith

      within : (v j : ℕ) → v ≤ max_places → j < 10 ^ max_digits → (v * 10 ^ max_digits + j) * 10 ^ max_places ≤ block
      within v j a d = omega arith

      below : (x y a b : ℕ) → x ≡ a → y ≡ b → a ≤ b → x ≤ y
      below x y a b d f g = omega arith

      level : (v j : ℕ) → placed (v * 10 ^ max_places) j ≡ (v * 10 ^ max_digits + j) * 10 ^ max_places
      level v j = omega arith
