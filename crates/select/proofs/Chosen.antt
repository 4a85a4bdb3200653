-- The word is that of the one rule met; with two or more the first two are told.
use Rattle.std.specs.Prelude.{Err, Ok, Result}
use Rattle.answer.specs.declared.Refusal.{Refusal}
use mathlib.Core.Path.{◌≡◌, refl, sym, ap, ◌∙◌}
use mathlib.Core.Bool.{Bool, true, false}
use mathlib.Core.List.{List, [], ◌∷◌}
use mathlib.Core.Logic.{◌⊎◌, ⊎_elim}
use Prim.Native.Nat.{ℕ, suc, ◌+◌, ◌≤◌, ◌<◌}
use native.Mathlib.Omega.{arith}
use lib.Dec.{eqb, leb}
use borrow.Author.Tests.{eqb-true, eqb-false, eq-eqb, ne_eqb, leb-true, leb-false}
use Rattle.decimal.proofs.Choices.{choice, tested}
use Rattle.answer.specs.declared.Keyword.{Keyword}
use Rattle.answer.specs.declared.Refusal.TheVariants.{Rules as OfRules}
use Rattle.answer.specs.declared.RulesRow.TheVariants.{TwoRulesMet}
use Rattle.number.specs.declared.Number.{Number}
use Rattle.number.specs.Alike.{negative}
use Rattle.pack_rules.specs.Syntax.{Range, Rule}
use Rattle.meaning.specs.Meaning.{holds, meets}
use Rattle.select.specs.Select.{met_by, count_met, first_met, second_met, keyword_at, pair_of, chosen, selection}
use Rattle.select.specs.Words.{MeetsAt, Chosen}
use Rattle.select.specs.Words.MeetsAt.{here, there}
use Rattle.select.specs.Words.Chosen.{none, one, two}

-- the second met rule, rule by rule
second_true : (bs : List Bool) → second_met (true ∷ bs) ≡ suc (first_met bs)
second_true bs = omega arith

second_false : (bs : List Bool) → second_met (false ∷ bs) ≡ suc (second_met bs)
second_false bs =
    let e : suc (first_met bs) + 1 ≡ suc (first_met bs + 1) = omega arith in
    rw e (omega arith)

module _ (x : Number) where
  -- ---- what is met is counted, and stands where the first and the second are told

  pub counted : {rs : List Rule} {k : ℕ} {w : Keyword} → MeetsAt x rs k w → 1 ≤ count_met (met_by rs x)
  counted (here h) = rw h (omega arith)
  counted (there m) = omega (arith, counted m)

  pub first_le : {rs : List Rule} {k : ℕ} {w : Keyword} → MeetsAt x rs k w → first_met (met_by rs x) ≤ k
  first_le (here h) = rw h (omega arith)
  first_le (there {r = r} m) = tested (meets r x) (λ e. rw e (omega arith)) (λ e. rw e (omega (arith, first_le m)))

  pub behind_counted : {rs : List Rule} {k : ℕ} {w : Keyword} → MeetsAt x rs k w → first_met (met_by rs x) < k → 2 ≤ count_met (met_by rs x)
  behind_counted (here h) l = absurd (omega arith)
  behind_counted (there {r = r} {rs = rs} m) l =
      tested (meets r x) (λ e. rw e (omega (arith, counted m)))
      (λ e.
      let l' : suc (first_met (met_by rs x)) < suc _ = rw e at l in
      rw e (omega (arith, behind_counted m (omega arith))))

  first_or_behind : {rs : List Rule} {k : ℕ} {w : Keyword} → MeetsAt x rs k w → (k ≡ first_met (met_by rs x)) ⊎ (second_met (met_by rs x) ≤ k)
  first_or_behind (here h) = ◌⊎◌.inl (rw h)
  first_or_behind (there {r = r} {rs = rs} {k = k} m) =
      tested (meets r x) (λ e. rw e (◌⊎◌.inr (omega (arith, second_true (met_by rs x), first_le m))))
      (λ e. rw e (⊎_elim (λ q. ◌⊎◌.inl (ap suc q)) (λ q. ◌⊎◌.inr (omega (arith, second_false (met_by rs x)))) (first_or_behind m)))

  pub first_meets : (rs : List Rule) → 0 < count_met (met_by rs x) → MeetsAt x rs (first_met (met_by rs x)) (keyword_at rs (first_met (met_by rs x)))
  first_meets [] h = absurd (omega arith)
  first_meets (r ∷ rs) h = tested (meets r x) (λ e. rw e (here e)) (λ e. rw e (there (first_meets rs (rest e))))
    where
      rest : meets r x ≡ false → 0 < count_met (met_by rs x)
      rest e =
          let h' : 0 < 0 + count_met (met_by rs x) = rw e at h in
          omega arith

  pub second_meets : (rs : List Rule) → 2 ≤ count_met (met_by rs x) → MeetsAt x rs (second_met (met_by rs x)) (keyword_at rs (second_met (met_by rs x)))
  second_meets [] h = absurd (omega arith)
  second_meets (r ∷ rs) h =
      tested (meets r x) (λ e. rw (e, second_true (met_by rs x)) (there (first_meets rs (one_left e))))
      (λ e. rw (e, second_false (met_by rs x)) (there (second_meets rs (two_left e))))
    where
      one_left : meets r x ≡ true → 0 < count_met (met_by rs x)
      one_left e =
          let h' : 2 ≤ 1 + count_met (met_by rs x) = rw e at h in
          omega arith

      two_left : meets r x ≡ false → 2 ≤ count_met (met_by rs x)
      two_left e =
          let h' : 2 ≤ 0 + count_met (met_by rs x) = rw e at h in
          omega arith

  pub keyword_of : {rs : List Rule} {k : ℕ} {w : Keyword} → MeetsAt x rs k w → keyword_at rs k ≡ w
  keyword_of (here h) = refl
  keyword_of (there m) = keyword_of m

  -- ---- the selection is what the met rules say

  pub told : (rules : List Rule) → Chosen x rules (selection rules x)
  told rules =
      choice (Chosen x rules) (eqb (count_met (met_by rules x)) 0)
      (λ e. none (λ k w m. absurd (omega (arith, counted m, eqb-true (count_met (met_by rules x)) 0 e))))
      (λ e. choice (Chosen x rules) (eqb (count_met (met_by rules x)) 1)
      (λ o. one (first_met (met_by rules x)) (keyword_at rules (first_met (met_by rules x))) (first_meets rules (some e)) (λ j u m. only (eqb-true (count_met (met_by rules x)) 1 o) m))
      (λ o. two (first_met (met_by rules x)) (second_met (met_by rules x)) (keyword_at rules (first_met (met_by rules x))) (keyword_at rules (second_met (met_by rules x)))
      (first_meets rules (some e)) (second_meets rules (more e o)) (omega arith) (λ j q m. first_or_behind m)))
    where
      some : eqb (count_met (met_by rules x)) 0 ≡ false → 0 < count_met (met_by rules x)
      some e =
          let n = eqb-false (count_met (met_by rules x)) 0 e in
          omega arith

      more : eqb (count_met (met_by rules x)) 0 ≡ false → eqb (count_met (met_by rules x)) 1 ≡ false → 2 ≤ count_met (met_by rules x)
      more e o =
          let n = eqb-false (count_met (met_by rules x)) 0 e in
          let m = eqb-false (count_met (met_by rules x)) 1 o in
          omega arith

      only : count_met (met_by rules x) ≡ 1 → {j : ℕ} {u : Keyword} → MeetsAt x rules j u → j ≡ first_met (met_by rules x)
      only o {j} {u} m =
          ⊎_elim (λ e. e) (λ e. absurd (omega (arith, behind_counted m (omega arith)))) (first_or_behind m)

  -- and nothing else is
  pub only_told : (rules : List Rule) (s : Result Keyword Refusal) → Chosen x rules s → s ≡ selection rules x
  only_told rules s (none f) = rw (eq-eqb (count_met (met_by rules x)) 0 zero_met)
    where
      zero_met : count_met (met_by rules x) ≡ 0
      zero_met = tested (eqb (count_met (met_by rules x)) 0) (λ e. eqb-true (count_met (met_by rules x)) 0 e) (λ e. absurd (f (first_met (met_by rules x)) (keyword_at rules (first_met (met_by rules x))) (first_meets rules (pos (eqb-false (count_met (met_by rules x)) 0 e)))))
        where
          pos : (count_met (met_by rules x) ≡ 0 → ⊥) → 0 < count_met (met_by rules x)
          pos n = omega arith
  only_told rules s (one k w m u) =
      rw (ne_eqb (count_met (met_by rules x)) 0 (λ z. omega (arith, counted m)), eq-eqb (count_met (met_by rules x)) 1 single)
      (ap Ok (sym (ap (keyword_at rules) (u (first_met (met_by rules x)) (keyword_at rules (first_met (met_by rules x))) (first_meets rules (counted m))) ∙ keyword_of m)))
    where
      single : count_met (met_by rules x) ≡ 1
      single =
          tested (leb 2 (count_met (met_by rules x)))
          (λ e.
          let h = leb-true 2 (count_met (met_by rules x)) e in
          absurd (omega (arith, u (first_met (met_by rules x)) (keyword_at rules (first_met (met_by rules x))) (first_meets rules (counted m)), u (second_met (met_by rules x)) (keyword_at rules (second_met (met_by rules x))) (second_meets rules h))))
          (λ e. omega (arith, counted m, leb-false 2 (count_met (met_by rules x)) e))
  only_told rules s (two a b w u m n l f) =
      rw (ne_eqb (count_met (met_by rules x)) 0 (λ z. omega (arith, counted m)), ne_eqb (count_met (met_by rules x)) 1 (λ z. omega (arith, double)))
      (ap Err (pair (sym first_a) (sym second_b)))
    where
      double : 2 ≤ count_met (met_by rules x)
      double = behind_counted n (omega (arith, first_le m))

      first_a : first_met (met_by rules x) ≡ a
      first_a =
          ⊎_elim (λ e. e) (λ e. absurd (omega (arith, first_le m)))
          (f (first_met (met_by rules x)) (keyword_at rules (first_met (met_by rules x))) (first_meets rules (counted m)))

      second_b : second_met (met_by rules x) ≡ b
      second_b =
          ⊎_elim (λ e. absurd (omega (arith, first_a)))
          (λ e. ⊎_elim (λ q. absurd (omega (arith, first_a))) (λ q. omega arith) (first_or_behind n))
          (f (second_met (met_by rules x)) (keyword_at rules (second_met (met_by rules x))) (second_meets rules double))

      pair : a ≡ first_met (met_by rules x) → b ≡ second_met (met_by rules x)
          → OfRules (TwoRulesMet (record { first = a + 1; second = b + 1 })) ≡ OfRules (TwoRulesMet (pair_of (met_by rules x)))
      pair p q = rw (p, q)

-- ---- the sign changes no word

pub met_sign : (rules : List Rule) (x : Number) → met_by rules (negative x) ≡ met_by rules x
met_sign [] x = refl
met_sign (r ∷ rs) x = ap (λ (l : List Bool). meets r x ∷ l) (met_sign rs x)

pub sign_no_word : (rules : List Rule) (x : Number) → selection rules (negative x) ≡ selection rules x
sign_no_word rules x = ap (chosen rules) (met_sign rules x)

-- ---- `c` and `e` in a rule are one operand

pub letters_alike : (x : Number) (modulus : ℕ) (negated : Bool) (ranges : List Range)
    → holds (record { operand = 99; modulus = modulus; negated = negated; ranges = ranges }) x ≡ holds (record { operand = 101; modulus = modulus; negated = negated; ranges = ranges }) x
letters_alike x modulus negated ranges = refl
