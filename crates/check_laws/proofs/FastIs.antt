-- The search that is run finds the rank that the definition's search over all admitted numbers does.
use mathlib.Core.Path.{◌≡◌, refl, sym, ap, ap₂, subst, ◌∙◌}
use mathlib.Core.Bool.{Bool, true, false}
use mathlib.Core.List.{List, [], ◌∷◌}
use mathlib.Core.Logic.{⊎_elim}
use Prim.Native.Nat.{ℕ, suc, ◌+◌, ◌-◌, ◌*◌, ◌/◌, ◌%◌, ◌^◌, ◌≤◌, ◌<◌, min}
use native.Mathlib.Omega.{arith}
use lib.Arith.{digits_div, digits_mod}
use lib.Dec.{eqb, ltb, leb}
use native.Mathlib.Nat.{le_trans}
use borrow.Author.Tests.{ltb-true, ltb-false, lt-ltb, le-ltb, le-leb, lt-leb, leb-true, leb-false, eqb-false, ne_eqb}
use Rattle.std.specs.Prelude.{if◌then◌else◌}
use Rattle.decimal.specs.Choice.{both, either}
use Rattle.decimal.proofs.Choices.{tested, choice}
use Rattle.decimal.proofs.Values.{power_mono}
use Rattle.decimal.specs.Lists.{all}
use Rattle.answer.specs.declared.Witness.{Witness}
use Rattle.number.specs.Limits.{max_exponent, max_digits, max_places}
use Rattle.number.specs.Admitted.{w_of, t_of}
use Rattle.pack_rules.specs.Syntax.{Relation}
use Rattle.meaning.specs.Meaning.{clause_holds, condition_holds}
use Rattle.check_laws.specs.Seek.{Least}
use Rattle.check_laws.proofs.Seeking.{split, and_false_left, and_false_right, and_true, or_false, least_none, least_or, least_one, seek_least}
use Rattle.check_laws.specs.Check.{lowest, admits, number_at, ranked, block, ranks, found, least_rank}
use Rattle.check_laws.specs.Fast.{query_i, query_t, passes, ends, passes_all, settled_e, settled_f, exponent_of, fraction_code, integer_of, kind_rank, clause_rank, fast_rank}
use Rattle.check_laws.proofs.Parts.{parts, none_zero, zero_none}
use Rattle.check_laws.proofs.Searched.{search_least}
use Rattle.check_laws.proofs.Split.{clause_split}
use Rattle.check_laws.proofs.Fractions.{fraction, v_of, f_of, kind_fits, kind_least, kind_is, kind_long}
use Rattle.check_laws.proofs.Digits.{v_at, i_at, f_at, code_at, f_lt, code_lt, in_order, order_least}

-- ---- one exponent

unfoldable integer : ℕ → List Relation → ℕ → Bool → Bool
integer e c i whole = both (leb (lowest e) i) (passes_all (query_i whole) c i)

pub lowest_le : (e : ℕ) → e ≤ max_exponent → lowest e ≤ 10 ^ max_digits
lowest_le e h = tested (eqb e 0) (λ z. rw z (omega arith)) (λ z. rw z (power_mono {j = max_digits} (omega arith)))

from_low : (P : ℕ → Bool) (lo hi r : ℕ) → Least P lo hi r → Least (λ i. both (leb lo i) (P i)) 0 hi r
from_low P lo hi r l =
    record {
      low = omega arith;
      high = l.high;
      none = λ j _ h. ⊎_elim (λ k. and_false_left (P j) (lt-leb lo j k)) (λ k. and_false_right (leb lo j) (l.none j k h)) (split j lo);
      hit = λ h. and_true (le-leb lo r l.low) (l.hit h);
    }

integer_least : (whole : Bool) (e : ℕ) (c : List Relation) → e ≤ max_exponent → Least (λ i. integer e c i whole) 0 (10 ^ max_digits) (integer_of whole e c)
unfolding integer integer_of
integer_least whole e c h = from_low (passes_all (query_i whole) c) (lowest e) (10 ^ max_digits) _ (search_least (query_i whole) c (lowest e) (10 ^ max_digits) (lowest_le e h))

abbrev kind_test : Bool → ℕ → List Relation → ℕ → Bool
kind_test whole e c = in_order (kind_fits whole c) (λ i. integer e c i whole)

kind_rank_law : (whole : Bool) (e : ℕ) (c : List Relation) → e ≤ max_exponent → Least (kind_test whole e c) 0 block (kind_rank whole e c)
unfolding kind_rank
kind_rank_law whole e c h =
    order_least (kind_fits whole c) (λ i. integer e c i whole) (fraction_code whole c) (integer_of whole e c) (kind_least whole c) (integer_least whole e c h)

-- what one exponent has not, a later one has not either
lowest_mono : (d e : ℕ) → d ≤ e → lowest d ≤ lowest e
lowest_mono d e h =
    tested (eqb d 0) (λ z. rw z (omega arith))
    (λ z.
    let n = eqb-false d 0 z in
    let m : eqb e 0 ≡ false = ne_eqb e 0 (λ y. n (omega arith)) in
    rw (z, m) (power_mono h))

later : (whole : Bool) (d e : ℕ) (c : List Relation) → d ≤ max_exponent → d ≤ e → block ≤ kind_rank whole d c → (k : ℕ) → k < block → kind_test whole e c k ≡ false
unfolding in_order integer
later whole d e c hd h n k hk =
    weaker (kind_fits whole c (code_at k)) (leb (lowest d) (i_at k)) (leb (lowest e) (i_at k)) (passes_all (query_i whole) c (i_at k))
    (λ a. le-leb _ _ (let l = leb-true _ _ a in let m = lowest_mono d e h in le_trans m l))
    ((kind_rank_law whole d c hd).none k (omega arith) (omega arith))
  where
    weaker : (a l m p : Bool) → (m ≡ true → l ≡ true) → both a (both l p) ≡ false → both a (both m p) ≡ false
    weaker a l true p f g = subst (λ (x : Bool). both a (both x p) ≡ false) (f refl) g
    weaker a l false p f g = and_false_right a refl

unfoldable exponent_test : ℕ → List Relation → ℕ → Bool
exponent_test e c k = both (all (settled_e e) c) (either (kind_test true e c k) (kind_test false e c k))

-- ---- at one number

module _ (e : ℕ) (c : List Relation) (k : ℕ) (he : e ≤ max_exponent) (hk : k < block) where
  abbrev X : Witness
  X = record { e = e; v = record { 0 = v_at k }; i = i_at k; f = record { 0 = f_at k } }

  is_X : ◌≡◌ {A = Witness} (ranked (e * block + k)) X
  is_X =
      let a : (e * block + k) / 10 ^ max_places ≡ e * (suc max_places * 10 ^ max_digits) + k / 10 ^ max_places = omega arith in
      let b : (e * block + k) / 10 ^ max_places / 10 ^ max_digits ≡ e * suc max_places + v_at k = omega arith in
      let p : (e * block + k) / 10 ^ max_places / 10 ^ max_digits / suc max_places ≡ e = omega arith in
      let q : (e * block + k) / 10 ^ max_places / 10 ^ max_digits % suc max_places ≡ v_at k = omega arith in
      let r : (e * block + k) / 10 ^ max_places % 10 ^ max_digits ≡ i_at k = omega arith in
      let s : (e * block + k) % 10 ^ max_places ≡ f_at k = omega arith in
      rw (p, q, r, s)

  abbrev low : Bool
  low = leb (lowest e) (i_at k)

  abbrev Q : ℕ
  Q = code_at k

  v_is : v_of (code_at k) ≡ v_at k
  v_is = digits_div (v_at k) (f_lt k)

  f_is : f_of (code_at k) ≡ f_at k
  f_is = digits_mod (v_at k) (f_lt k)

  -- the kinds at v and f
  kinds : f_at k < 10 ^ v_at k → either (kind_test true e c k) (kind_test false e c k)
      ≡ both (fraction (v_at k) (w_of (v_at k) (f_at k)) c (t_of (v_at k) (f_at k))) (integer e c (i_at k) (eqb (w_of (v_at k) (f_at k)) 0))
  unfolding in_order
  kinds h =
      kind_is c (code_at k) (code_lt k hk) (subst (λ (x : ℕ). f_of (code_at k) < 10 ^ x) (sym v_is) (subst (λ (x : ℕ). x < 10 ^ v_at k) (sym f_is) h)) (integer e c (i_at k))
      ∙ ap₂ (λ (v f : ℕ). both (fraction v (w_of v f) c (t_of v f)) (integer e c (i_at k) (eqb (w_of v f) 0))) v_is f_is

  inside : f_at k < 10 ^ v_at k → both (admits X) (clause_holds c (number_at X)) ≡ exponent_test e c k
  unfolding admits exponent_test integer fraction passes_all ends
  inside h =
      let p = parts (v_at k) (f_at k) h in
      let w = w_of (v_at k) (f_at k) in
      let t = t_of (v_at k) (f_at k) in
      ap₂ both
      (five (leb e max_exponent) (leb (v_at k) max_places) (leb (lowest e) (i_at k)) (ltb (i_at k) (10 ^ max_digits)) (ltb (f_at k) (10 ^ v_at k))
      (le-leb _ _ he) (le-leb (v_at k) max_places (omega arith)) (lt-ltb (i_at k) (10 ^ max_digits) (omega arith)) (lt-ltb _ _ h))
      (clause_split false e (v_at k) (i_at k) (f_at k) w t (none_zero p) (zero_none p) p.whole c)
      ∙ mix (leb (lowest e) (i_at k)) (all (settled_e e) c) (all (settled_f (v_at k) w) c) (all (λ (r : Relation). passes (query_i (eqb w 0)) r (i_at k)) c) (all (λ (r : Relation). passes (query_t (v_at k - w)) r t) c)
      ∙ ap (both (all (settled_e e) c)) (sym (kinds h))
    where
      five : (a b l d f : Bool) → a ≡ true → b ≡ true → d ≡ true → f ≡ true → both a (both b (both l (both d f))) ≡ l
      five a b true d f ea eb ed ef = rw (ea, eb, ed, ef)
      five a b false d f ea eb ed ef = rw (ea, eb)

      mix : (l s f i t : Bool) → both l (both s (both f (both i t))) ≡ both s (both (both f t) (both l i))
      mix true true true true t = last t
        where
          last : (t : Bool) → t ≡ both t true
          last true = refl
          last false = refl
      mix true true true false true = refl
      mix true true true false false = refl
      mix true true false i t = refl
      mix true false f i t = refl
      mix false true true i true = refl
      mix false true true i false = refl
      mix false true false i t = refl
      mix false false f i t = refl

  outside : 10 ^ v_at k ≤ f_at k → both (admits X) (clause_holds c (number_at X)) ≡ exponent_test e c k
  unfolding admits exponent_test in_order
  outside h =
      and_false_left (clause_holds c (number_at X))
      (and_false_right (leb e max_exponent) (and_false_right (leb (v_at k) max_places) (and_false_right (leb (lowest e) (i_at k)) (and_false_right (ltb (i_at k) (10 ^ max_digits)) (le-ltb (f_at k) (10 ^ v_at k) h)))))
      ∙ sym (and_false_right (all (settled_e e) c) (or_false (and_false_left (integer e c (i_at k) true) (long true)) (and_false_left (integer e c (i_at k) false) (long false))))
    where
      long : (whole : Bool) → kind_fits whole c (code_at k) ≡ false
      long whole = kind_long c (code_at k) (code_lt k hk) (ap₂ (λ (v f : ℕ). ltb f (10 ^ v)) v_is f_is ∙ le-ltb (f_at k) (10 ^ v_at k) h) whole

  found_is : found (clause_holds c) (e * block + k) ≡ exponent_test e c k
  unfolding found
  found_is =
      ap (λ (x : Witness). both (admits x) (clause_holds c (number_at x))) is_X
      ∙ ⊎_elim inside outside (split (f_at k) (10 ^ v_at k))

-- ---- all exponents

module _ (c : List Relation) where
  settled : Least (λ e. all (settled_e e) c) 0 (suc max_exponent) (exponent_of c)
  unfolding exponent_of
  settled = seek_least (λ e. all (settled_e e) c) (suc max_exponent) 0

  -- a rank is an exponent and a rank within it
  at_rank : (j : ℕ) → j < ranks → found (clause_holds c) j ≡ exponent_test (j / block) c (j % block)
  at_rank j h =
      ap (found (clause_holds c)) (let g : j ≡ j / block * block + j % block = omega arith in g)
      ∙ found_is (j / block) c (j % block) (omega arith) (omega arith)

  -- nothing before the least exponent
  sooner : (j : ℕ) → j < ranks → j / block < exponent_of c → found (clause_holds c) j ≡ false
  unfolding exponent_test
  sooner j h l = at_rank j h ∙ and_false_left (either (kind_test true (j / block) c (j % block)) (kind_test false (j / block) c (j % block))) (settled.none (j / block) (omega arith) l)

  module _ (he : exponent_of c ≤ max_exponent) where
    abbrev K : ℕ
    K = min (kind_rank true (exponent_of c) c) (kind_rank false (exponent_of c) c)

    either_kind : Least (λ k. either (kind_test true (exponent_of c) c k) (kind_test false (exponent_of c) c k)) 0 block K
    either_kind = least_or (kind_rank_law true (exponent_of c) c he) (kind_rank_law false (exponent_of c) c he)

    clause_found : K < block → Least (found (clause_holds c)) 0 ranks (exponent_of c * block + K)
    unfolding exponent_test
    clause_found h =
        record {
          low = omega arith;
          high = omega arith;
          none = λ j _ l. ⊎_elim (sooner j (omega arith)) (λ z. at j l z) (split (j / block) (exponent_of c));
          hit = λ _. found_is (exponent_of c) c K he h ∙ and_true (settled.hit (omega arith)) (either_kind.hit h);
        }
      where
        at : (j : ℕ) → j < exponent_of c * block + K → exponent_of c ≤ j / block → found (clause_holds c) j ≡ false
        at j l z =
            at_rank j (omega arith)
            ∙ and_false_right (all (settled_e (j / block)) c)
            (subst (λ (x : ℕ). either (kind_test true x c (j % block)) (kind_test false x c (j % block)) ≡ false) (let g : exponent_of c ≡ j / block = omega arith in g) (either_kind.none (j % block) (omega arith) (omega arith)))

    clause_none : block ≤ K → Least (found (clause_holds c)) 0 ranks ranks
    unfolding exponent_test
    clause_none h =
        least_none (found (clause_holds c)) 0 ranks (omega arith)
        (λ j _ l. ⊎_elim (sooner j l)
        (λ z. at_rank j l ∙ and_false_right (all (settled_e (j / block)) c)
        (or_false (later true (exponent_of c) (j / block) c he z (omega arith) (j % block) (omega arith)) (later false (exponent_of c) (j / block) c he z (omega arith) (j % block) (omega arith))))
        (split (j / block) (exponent_of c)))

  pub clause_least : Least (found (clause_holds c)) 0 ranks (clause_rank c)
  unfolding clause_rank
  clause_least = go (leb (exponent_of c) max_exponent) refl
    where
      go : (b : Bool) → leb (exponent_of c) max_exponent ≡ b → Least (found (clause_holds c)) 0 ranks
          (elim b [ true ↦ (let k = min (kind_rank true (exponent_of c) c) (kind_rank false (exponent_of c) c) in if ltb k block then exponent_of c * block + k else ranks) | false ↦ ranks ])
      go true e =
          let he = leb-true (exponent_of c) max_exponent e in
          choice (Least (found (clause_holds c)) 0 ranks) (ltb (min (kind_rank true (exponent_of c) c) (kind_rank false (exponent_of c) c)) block)
          (λ h. clause_found he (ltb-true _ _ h)) (λ h. clause_none he (ltb-false _ _ h))
      go false e =
          let n = leb-false (exponent_of c) max_exponent e in
          least_none (found (clause_holds c)) 0 ranks (omega arith) (λ j _ l. sooner j l (omega arith))

-- ---- a condition

pub least_same : {P Q : ℕ → Bool} {lo hi r : ℕ} → ((j : ℕ) → P j ≡ Q j) → Least P lo hi r → Least Q lo hi r
least_same e l = record { low = l.low; high = l.high; none = λ j a b. sym (e j) ∙ l.none j a b; hit = λ h. sym (e _) ∙ l.hit h }

pub fast_least : (cs : List (List Relation)) → Least (found (condition_holds cs)) 0 ranks (fast_rank cs)
unfolding fast_rank found
fast_least [] = least_none (λ j. both (admits (ranked j)) false) 0 ranks (omega arith) (λ j _ h. and_false_right (admits (ranked j)) refl)
fast_least (c ∷ cs) = least_same (λ j. spread (admits (ranked j)) (clause_holds c (number_at (ranked j))) (condition_holds cs (number_at (ranked j)))) (least_or (clause_least c) (fast_least cs))
  where
    spread : (a b d : Bool) → either (both a b) (both a d) ≡ both a (either b d)
    spread true b d = refl
    spread false b d = refl

-- The least admitted number that meets a condition is what the search that is run finds.
pub fast_is : (cs : List (List Relation)) → least_rank (condition_holds cs) ≡ fast_rank cs
unfolding least_rank
fast_is cs = least_one (seek_least (found (condition_holds cs)) ranks 0) (fast_least cs)
