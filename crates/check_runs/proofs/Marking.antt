-- The levels that a clause asks are marked.
use mathlib.Core.Path.{◌≡◌, refl, sym, ap, subst, ◌∙◌}
use mathlib.Core.Bool.{Bool, true, false, not}
use mathlib.Core.List.{List}
use mathlib.Core.Logic.{⊎_elim}
use Prim.Native.Nat.{ℕ, ◌+◌, ◌≤◌, ◌<◌}
use native.Mathlib.Omega.{arith}
use native.Mathlib.Decide.{ℕ_discrete}
use lib.Dec.{eqb}
use lib.ListN.{length, get_or, set, length-set}
use lib.Seq.{get_or-set_same, get_or-set_other}
use borrow.Author.Tests.{eqb-true, ne_eqb}
use Rattle.std.specs.Prelude.{if◌then◌else◌}
use Rattle.decimal.specs.Choice.{both}
use Rattle.decimal.proofs.Choices.{choice, not_both, both_true}
use Rattle.pack_rules.specs.Syntax.{Relation}
use Rattle.pack_rules.specs.Stretch.{Table}
use Rattle.check_laws.proofs.Seeking.{split, and_true}
use Rattle.check_laws.specs.Fast.{factor, asked}
use Rattle.check_laws.specs.Levels.{level_of, level_in, stray, own_one, last_digit, own, levelled}
use Rattle.check_laws.specs.Read.{joined_in}
use Rattle.check_laws.specs.declared.Query.{Query}
use Rattle.check_laws.specs.declared.Span.{Span}
use Rattle.check_runs.specs.Kept.{size_of, Told, Noted, Grown}
use Rattle.check_relation.specs.Runs.{tier}
use Rattle.check_relation.proofs.Levelling.{not_asked}
use Rattle.check_runs.proofs.Keeping.{relation_of, joined_by_place, all_stretch}

-- ---- one mark

pub grown_set : (marks : List Bool) (l : ℕ) → l < length marks → Grown marks (set marks l true)
grown_set marks l h i e =
    elim (ℕ_discrete i l) [
      | yes f ↦ ap (λ (k : ℕ). get_or (set marks l true) k false) f ∙ get_or-set_same marks l true false h
      | no d ↦ get_or-set_other marks l i true false d ∙ e
    ]

-- ---- one relation

module _ (q : Query) (r : Relation) (s : ℕ) (e : s ≡ factor q r.operand) (marks : List Bool) where
  pub noted_not : s ≡ 0 → Noted q r marks
  noted_not z a = not_both a (not_asked q r s e z)

  pub noted_at : (l : ℕ) → l ≡ level_of s r.modulus → get_or marks l false ≡ true → Noted q r marks
  noted_at l f m a = ap (λ (k : ℕ). get_or marks k false) (ap (λ (k : ℕ). level_of k r.modulus) (sym e) ∙ sym f) ∙ m

-- a level that is not marked is not asked
noted_own : (q : Query) (r : Relation) (marks : List Bool) (j x : ℕ) → Noted q r marks → get_or marks j false ≡ false → own_one q j r x ≡ true
unfolding own_one
noted_own q r marks j x n e =
    choice (λ b. b ≡ true) (both (asked q r) (eqb (level_in q r) j))
    (λ t.
    let h = both_true (asked q r) (eqb (level_in q r) j) t in
    not_both (n h.0) (ap (λ (k : ℕ). get_or marks k false) (eqb-true (level_in q r) j h.1) ∙ e))
    (λ t. refl)

noted_levelled : (q : Query) (r : Relation) (marks : List Bool) → Noted q r marks → get_or marks 8 false ≡ false
    → (if asked q r then not (eqb (level_in q r) stray) else true) ≡ true
noted_levelled q r marks n e =
    choice (λ b. b ≡ true) (asked q r)
    (λ t. ap not (ne_eqb (level_in q r) stray (λ f. not_both (n t) (ap (λ (k : ℕ). get_or marks k false) f ∙ e))))
    (λ t. refl)

-- ---- the loop over the relations

module _ (T : Table) (s : Span) (q : Query) where
  -- those of the first k relations, and of the last digit, are marked
  pub record Marks (k : ℕ) (marks : List Bool) : Type 0 where
    pub within : k ≤ size_of s
    pub digit : q.odd ≡ true → get_or marks 1 false ≡ true
    pub noted : (i : ℕ) → i < k → Noted q (relation_of T s i) marks

  pub marks_start : (marks : List Bool) → (q.odd ≡ true → get_or marks 1 false ≡ true) → Marks 0 marks
  marks_start marks d = record { within = omega arith; digit = d; noted = λ i l. absurd (omega arith) }

  pub marks_more : (k : ℕ) (old new : List Bool) → k < size_of s → Marks k old → Noted q (relation_of T s k) new → Grown old new → Marks (k + 1) new
  marks_more k old new h m n g =
      record {
        within = omega arith;
        digit = λ o. g 1 (m.digit o);
        noted = λ i l. ⊎_elim
            (λ w a. g (level_in q (relation_of T s i)) (m.noted i w a))
            (λ w. let e : k ≡ i = omega arith in subst (λ (y : ℕ). Noted q (relation_of T s y) new) e n)
            (split i k);
      }

  module _ (k : ℕ) (marks : List Bool) (h : size_of s ≤ k) (m : Marks k marks) where
    at_index : (i : ℕ) → i < size_of s → Noted q (relation_of T s (0 + i)) marks
    at_index i l = let e : 0 + i ≡ i = omega arith in rw e (m.noted i (omega arith))

    digit_own : (j x : ℕ) → get_or marks j false ≡ false → last_digit q j x ≡ true
    unfolding last_digit
    digit_own j x e =
        choice (λ b. b ≡ true) (both q.odd (eqb j 1))
        (λ t.
        let u = both_true q.odd (eqb j 1) t in
        not_both (m.digit u.0) (ap (λ (i : ℕ). get_or marks i false) (sym (eqb-true j 1 u.1)) ∙ e))
        (λ t. refl)

    pub marks_own : (j : ℕ) → get_or marks j false ≡ false → (x : ℕ) → own q (joined_in T s) j x ≡ true
    unfolding own
    marks_own j e x =
        and_true (digit_own j x e)
        (rw (joined_by_place T s) (all_stretch (λ (r : Relation). own_one q j r x) (relation_of T s) 0 (size_of s) (λ i l. noted_own q (relation_of T s (0 + i)) marks j x (at_index i l) e)))

    pub marks_levelled : get_or marks 8 false ≡ false → levelled q (joined_in T s) ≡ true
    unfolding levelled
    marks_levelled e =
        rw (joined_by_place T s)
        (all_stretch (λ (r : Relation). if asked q r then not (eqb (level_in q r) stray) else true) (relation_of T s) 0 (size_of s) (λ i l. noted_levelled q (relation_of T s (0 + i)) marks (at_index i l) e))

  -- ---- what is told of each

  -- the levels of the first k relations are told
  pub record Telling (k : ℕ) (tiers : List ℕ) : Type 0 where
    pub long : length tiers ≡ 16
    pub told : (i : ℕ) → i < k → get_or tiers i 0 ≡ tier q (relation_of T s i)

  pub telling_start : (tiers : List ℕ) → length tiers ≡ 16 → Telling 0 tiers
  telling_start tiers l = record { long = l; told = λ i h. absurd (omega arith) }

  pub telling_more : (k l : ℕ) (tiers : List ℕ) → k < 16 → Telling k tiers → l ≡ tier q (relation_of T s k) → Telling (k + 1) (set tiers k l)
  telling_more k l tiers h t e =
      record {
        long = length-set tiers k l ∙ t.long;
        told = λ i b. elim (ℕ_discrete i k) [
          | yes f ↦ ap (λ (y : ℕ). get_or (set tiers k l) y 0) f ∙ get_or-set_same tiers k l 0 (omega (arith, t.long)) ∙ e ∙ ap (λ (y : ℕ). tier q (relation_of T s y)) (sym f)
          | no d ↦ get_or-set_other tiers k i l 0 d ∙ t.told i (omega arith)
        ];
      }

  pub telling_done : (k : ℕ) (tiers : List ℕ) → size_of s ≤ k → Telling k tiers → Told T s q tiers
  telling_done k tiers h t i l = t.told i (omega arith)
