-- A relation is what e settles, what v and w settle, what it asks of i and what it asks of t; and so is a clause.
use mathlib.Core.Path.{◌≡◌, refl, sym, ap, ap₂, subst, ◌∙◌}
use mathlib.Core.Bool.{Bool, true, false, not}
use mathlib.Core.List.{List, [], ◌∷◌}
use Prim.Native.Nat.{ℕ, ◌-◌, ◌*◌, ◌%◌, ◌^◌}
use native.Mathlib.Omega.{arith}
use native.Mathlib.Nat.{mul-one}
use lib.Dec.{eqb}
use borrow.Author.Tests.{eqb-true, ne_eqb}
use Rattle.std.specs.Prelude.{if◌then◌else◌}
use Rattle.decimal.specs.Choice.{both, either}
use Rattle.decimal.proofs.Choices.{tested, eqb_same, both_one}
use Rattle.decimal.proofs.Values.{power_pos}
use Rattle.decimal.specs.Lists.{all, any}
use Rattle.number.specs.declared.Number.{Number}
use Rattle.pack_rules.specs.Syntax.{Range, Relation}
use Rattle.meaning.specs.Meaning.{in_range, holds, clause_holds}
use Rattle.check_laws.specs.Fast.{listed, test, factor, passes, query_i, query_t, of_exponent, settled_e, settled_v, settled_w, settled_f}

-- a number with these operands, of which w is 0 exactly where f is
module _ (negative : Bool) (e v i f w t : ℕ) (to : w ≡ 0 → f ≡ 0) (from : f ≡ 0 → w ≡ 0) (is : t * 10 ^ (v - w) ≡ f) where
  abbrev x : Number
  x = record { negative = negative; e = e; i = i; v = record { 0 = v }; f = record { 0 = f }; w = record { 0 = w }; t = record { 0 = t } }

  -- what is asked, by the operand's letter o
  module _ (m : ℕ) (n : Bool) (rs : List Range) where
    abbrev rel : ℕ → Relation
    rel o = record { operand = o; modulus = m; negated = n; ranges = rs }

    abbrev Says : ℕ → Type 0
    Says o = holds (rel o) x ≡ both (settled_e e (rel o)) (both (settled_f v w (rel o)) (both (passes (query_i (eqb w 0)) (rel o) i) (passes (query_t (v - w)) (rel o) t)))

    at_n : Says 110
    unfolding settled_e settled_v settled_w of_exponent passes factor test listed
    at_n = rw (eqb_same f 0 w 0 from to) (go (eqb w 0) n)
      where
        A : Bool
        A = any (in_range (i % m)) rs

        go : (b s : Bool) → (if s then not (both b (any (in_range (i % m)) rs)) else both b (any (in_range (i % m)) rs))
            ≡ both (either b s) (both (if not (eqb (if b then 1 else 0) 0) then (if s then not (any (in_range (i * (if b then 1 else 0) % m)) rs) else any (in_range (i * (if b then 1 else 0) % m)) rs) else true) true)
        go true true = rw (mul-one i) (sym (both_one _))
        go true false = rw (mul-one i) (sym (both_one _))
        go false true = refl
        go false false = refl

    at_i : Says 105
    unfolding settled_e settled_v settled_w of_exponent passes factor test listed
    at_i = rw (mul-one i) (sym (both_one _))

    at_f : Says 102
    unfolding settled_e settled_v settled_w of_exponent passes factor test listed
    at_f = rw (ne_eqb (10 ^ (v - w)) 0 (λ z. omega (arith, power_pos (v - w))), is)

    at_t : Says 116
    unfolding settled_e settled_v settled_w of_exponent passes factor test listed
    at_t = rw (mul-one t)

    at_v : Says 118
    unfolding settled_e settled_v settled_w of_exponent passes factor test listed
    at_v = twice _
      where
        twice : (a : Bool) → a ≡ both (both a true) true
        twice true = refl
        twice false = refl

    at_w : Says 119
    unfolding settled_e settled_v settled_w of_exponent passes factor test listed
    at_w = sym (both_one _)

    at_e : (o : ℕ) → eqb o 110 ≡ false → eqb o 105 ≡ false → eqb o 102 ≡ false → eqb o 116 ≡ false → eqb o 118 ≡ false → eqb o 119 ≡ false → Says o
    unfolding settled_e settled_v settled_w of_exponent passes factor test listed
    at_e o a b c d p q = rw (a, b, c, d, p, q) (sym (both_one _))

    says : (o : ℕ) → Says o
    says o =
        tested (eqb o 110) (λ a. by 110 a at_n) (λ a.
        tested (eqb o 105) (λ b. by 105 b at_i) (λ b.
        tested (eqb o 102) (λ c. by 102 c at_f) (λ c.
        tested (eqb o 116) (λ d. by 116 d at_t) (λ d.
        tested (eqb o 118) (λ p. by 118 p at_v) (λ p.
        tested (eqb o 119) (λ q. by 119 q at_w) (λ q.
        at_e o a b c d p q))))))
      where
        by : (l : ℕ) → eqb o l ≡ true → Says l → Says o
        by l k s = subst Says (sym (eqb-true o l k)) s

  relation_split : (r : Relation) → holds r x ≡ both (settled_e e r) (both (settled_f v w r) (both (passes (query_i (eqb w 0)) r i) (passes (query_t (v - w)) r t)))
  relation_split r = says r.modulus r.negated r.ranges r.operand

  pub clause_split : (c : List Relation) → clause_holds c x
      ≡ both (all (settled_e e) c)
      (both (all (settled_f v w) c)
      (both (all (λ (r : Relation). passes (query_i (eqb w 0)) r i) c) (all (λ (r : Relation). passes (query_t (v - w)) r t) c)))
  clause_split [] = refl
  clause_split (r ∷ rs) = ap₂ both (relation_split r) (clause_split rs) ∙ mix (settled_e e r) (settled_f v w r) (passes (query_i (eqb w 0)) r i) (passes (query_t (v - w)) r t)
      (all (settled_e e) rs) (all (settled_f v w) rs) (all (λ (r : Relation). passes (query_i (eqb w 0)) r i) rs) (all (λ (r : Relation). passes (query_t (v - w)) r t) rs)
    where
      swap : (a b c d : Bool) → both (both a b) (both c d) ≡ both (both a c) (both b d)
      swap true true c d = refl
      swap true false true d = refl
      swap true false false d = refl
      swap false b c d = refl

      mix : (a b c d a' b' c' d' : Bool) → both (both a (both b (both c d))) (both a' (both b' (both c' d'))) ≡ both (both a a') (both (both b b') (both (both c c') (both d d')))
      mix a b c d a' b' c' d' =
          swap a (both b (both c d)) a' (both b' (both c' d'))
          ∙ ap (both (both a a')) (swap b (both c d) b' (both c' d') ∙ ap (both (both b b')) (swap c d c' d'))
