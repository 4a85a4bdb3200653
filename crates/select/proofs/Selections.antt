-- The word chosen from the bits is the word chosen from the met rules.
use Rattle.std.specs.Prelude.{Err, Ok}
use mathlib.Core.Path.{◌≡◌, refl, sym, ap, ◌∙◌}
use mathlib.Core.Bool.{Bool}
use mathlib.Core.List.{List, ◌∷◌}
use Prim.Native.Nat.{ℕ, zero, suc, ◌+◌, ◌/◌, ◌^◌, ◌≤◌, ◌<◌, min}
use native.Mathlib.Omega.{arith}
use native.Mathlib.Nat.{zero-add}
use borrow.Author.Tests.{eq-eqb, ne_eqb}
use lib.Count.{ones, count_trailing_zeros}
use lib.ListN.{length, get_or, drop, length-drop}
use Rattle.answer.specs.declared.Keyword.TheVariants.{Other}
use Rattle.answer.specs.declared.Refusal.TheVariants.{Rules as OfRules}
use Rattle.answer.specs.declared.RulesRow.TheVariants.{TwoRulesMet}
use Rattle.number.specs.declared.Number.{Number}
use Rattle.pack_rules.specs.Syntax.{Rule}
use Rattle.pack_rules.specs.declared.Pack.{Pack}
use Rattle.pack_rules.specs.Held.{keyword_of, held_rules}
use Rattle.pack_rules.specs.Stretch.{stretch, table_of, rule_at}
use Rattle.pack_rules.proofs.Stretches.{Sized, length_stretch, held_rules_law}
use Rattle.meaning.specs.Meaning.{meets}
use Rattle.select.specs.Select.{met_by, mask_of, count_met, first_met, second_met, keyword_at, pair_of, selection}
use Rattle.meaning.specs.Places.{met_at}
use Rattle.select.proofs.Masks.{ones_mask, trailing_mask, mask_drop, first_within, count_behind}

met_stretch : (x : Number) (g : ℕ → Rule) (from n : ℕ) → met_by (stretch g from n) x ≡ stretch (λ (j : ℕ). meets (g j) x) from n
unfolding stretch
met_stretch x g from zero = refl
met_stretch x g from (suc n) = ap (λ (l : List Bool). meets (g from) x ∷ l) (met_stretch x g (suc from) n)

keyword_stretch : (g : ℕ → Rule) (from n k : ℕ) → k < n → keyword_at (stretch g from n) k ≡ (g (from + k)).keyword
unfolding stretch
keyword_stretch g from zero k h = absurd (omega arith)
keyword_stretch g from (suc n) zero h = ap (λ (j : ℕ). (g j).keyword) (omega arith)
keyword_stretch g from (suc n) (suc k) h = keyword_stretch g (suc from) n k (omega arith) ∙ ap (λ (j : ℕ). (g j).keyword) (omega arith)

met_length : (p : Pack) (x : Number) → Sized p → length (met_by (held_rules p) x) ≡ min p.count 6
met_length p x s = rw (held_rules_law p s, met_stretch x (rule_at p) 0 (min p.count 6)) (length_stretch (λ (j : ℕ). meets (rule_at p j) x) 0 (min p.count 6))

-- Of a pack p and a number x: m is the mask of the rules met.
pub record Met (p : Pack) (x : Number) (m : ℕ) : Type 0 where
  pub mask : m ≡ mask_of (met_by (held_rules p) x)
  pub few : length (met_by (held_rules p) x) ≤ 6

pub met : (p : Pack) (x : Number) (m : ℕ) → Sized p
    → m ≡ mask_of (stretch (met_at (table_of p) p.relations p.clauses x) 0 (min p.count 6)) → Met p x m
met p x m s e = record { mask = e ∙ ap mask_of (sym same); few = omega (arith, met_length p x s) }
  where
    same : met_by (held_rules p) x ≡ stretch (met_at (table_of p) p.relations p.clauses x) 0 (min p.count 6)
    same = rw (held_rules_law p s) (met_stretch x (rule_at p) 0 (min p.count 6))

module _ (p : Pack) (x : Number) (m : ℕ) (s : Sized p) (h : Met p x m) where
  pub count_is : ones m ≡ count_met (met_by (held_rules p) x)
  count_is = rw h.mask (ones_mask (met_by (held_rules p) x))

  pub first_is : 0 < ones m → count_trailing_zeros 32 m ≡ first_met (met_by (held_rules p) x)
  first_is k = rw h.mask (trailing_mask 32 (met_by (held_rules p) x) (omega (arith, h.few)) (omega (arith, count_is)))

  pub first_small : 0 < ones m → count_trailing_zeros 32 m < 6
  first_small k = omega (arith, first_is k, first_within (met_by (held_rules p) x) (omega (arith, count_is)), h.few)

  pub none_met : ones m ≡ 0 → Ok Other ≡ selection (held_rules p) x
  none_met z = rw (eq-eqb (count_met (met_by (held_rules p) x)) 0 (omega (arith, count_is)))

  pub one_met : ones m ≡ 1 → Ok (keyword_of (get_or p.keyword (count_trailing_zeros 32 m) 0)) ≡ selection (held_rules p) x
  one_met o =
      let bs = met_by (held_rules p) x in
      rw (ne_eqb (count_met bs) 0 (λ z. omega (arith, count_is)), eq-eqb (count_met bs) 1 (omega (arith, count_is)))
      (ap Ok (sym word))
    where
      within : first_met (met_by (held_rules p) x) < min p.count 6
      within =
          omega (arith, first_within (met_by (held_rules p) x) (omega (arith, count_is)), met_length p x s)

      word : keyword_at (held_rules p) (first_met (met_by (held_rules p) x)) ≡ keyword_of (get_or p.keyword (count_trailing_zeros 32 m) 0)
      word =
          ap (λ (l : List Rule). keyword_at l (first_met (met_by (held_rules p) x))) (held_rules_law p s)
          ∙ keyword_stretch (rule_at p) 0 (min p.count 6) (first_met (met_by (held_rules p) x)) within
          ∙ ap (λ (j : ℕ). keyword_of (get_or p.keyword j 0)) (zero-add (first_met (met_by (held_rules p) x)) ∙ sym (first_is (omega (arith, o))))

  pub second_is : 2 ≤ ones m → count_trailing_zeros 32 (m / 2 ^ (count_trailing_zeros 32 m + 1)) ≡ first_met (drop (first_met (met_by (held_rules p) x) + 1) (met_by (held_rules p) x))
  second_is k =
      let bs = met_by (held_rules p) x in
      let f = first_is (omega arith) in
      rw (f, h.mask, mask_drop (first_met bs + 1) bs)
      (trailing_mask 32 (drop (first_met bs + 1) bs) (omega (arith, length-drop (first_met bs + 1) bs, h.few)) (omega (arith, count_behind bs (omega (arith, count_is)), count_is)))

  pub second_small : 2 ≤ ones m → count_trailing_zeros 32 (m / 2 ^ (count_trailing_zeros 32 m + 1)) < 6
  second_small k =
      let bs = met_by (held_rules p) x in
      omega (arith, second_is k, first_within (drop (first_met bs + 1) bs) (omega (arith, count_behind bs (omega (arith, count_is)), count_is)), length-drop (first_met bs + 1) bs, h.few)

  pub two_met : (a b : ℕ) → 2 ≤ ones m → a ≡ count_trailing_zeros 32 m + 1 → b ≡ a + count_trailing_zeros 32 (m / 2 ^ (count_trailing_zeros 32 m + 1)) + 1
      → Err (OfRules (TwoRulesMet (record { first = a; second = b }))) ≡ selection (held_rules p) x
  two_met a b k e f =
      let bs = met_by (held_rules p) x in
      rw (ne_eqb (count_met bs) 0 (λ z. omega (arith, count_is)), ne_eqb (count_met bs) 1 (λ z. omega (arith, count_is)))
      (ap Err (pair (omega (arith, first_is (omega arith))) (omega (arith, first_is (omega arith), second_is k))))
    where
      pair : a ≡ first_met (met_by (held_rules p) x) + 1 → b ≡ second_met (met_by (held_rules p) x) + 1
          → OfRules (TwoRulesMet (record { first = a; second = b })) ≡ OfRules (TwoRulesMet (pair_of (met_by (held_rules p) x)))
      pair u v = rw (u, v)
