-- The check of a pack is that of its rules by places.
use Rattle.check_laws.specs.declared.Clash.{Clash}
use Rattle.std.specs.Prelude.{Result}
use mathlib.Core.Path.{◌≡◌, refl, sym, ap, ap₂, ◌∙◌}
use mathlib.Core.List.{List}
use Prim.Native.Nat.{ℕ, zero, suc, ◌+◌, ◌-◌, min}
use native.Mathlib.Nat.{sub-zero}
use Rattle.pack_rules.specs.Syntax.{Relation, Rule}
use Rattle.pack_rules.specs.declared.Pack.{Pack}
use Rattle.pack_rules.specs.Held.{held_rules}
use Rattle.pack_rules.specs.Stretch.{stretch, table_of, rule_at}
use Rattle.pack_rules.proofs.Stretches.{Sized, held_rules_law}
use Rattle.check_laws.specs.Check.{named, against, first_pair, check_of}
use Rattle.check_laws.specs.Fast.{fast_rank, both_of, fast_clash}
use Rattle.check_laws.specs.Read.{bare_rule}
use Rattle.check_laws.proofs.Joining.{check_fast}

-- ---- keywords do not matter to a search that asks the clauses alone

abbrev Clauses : Type 0
Clauses = List (List Relation)

-- the rank of a pair, by its clauses
abbrev pub by_clauses : (Clauses → Clauses → ℕ) → Rule → Rule → ℕ
by_clauses G a b = G a.clauses b.clauses

module _ (G : Clauses → Clauses → ℕ) (g h : ℕ → Rule) (same : (j : ℕ) → (g j).clauses ≡ (h j).clauses) where
  against_same : (p q i k n : ℕ) (r s : Result (Unit {0}) Clash) → r ≡ s → against (by_clauses G) p q (g i) (stretch g k n) r ≡ against (by_clauses G) p q (h i) (stretch h k n) s
  unfolding against stretch
  against_same p q i k zero r s e = e
  against_same p q i k (suc n) r s e = ap₂ (named p q) (ap₂ G (same i) (same k)) (against_same p (suc q) i (suc k) n r s e)

  first_same : (p k n : ℕ) → first_pair (by_clauses G) p (stretch g k n) ≡ first_pair (by_clauses G) p (stretch h k n)
  unfolding first_pair stretch
  first_same p k zero = refl
  first_same p k (suc n) = against_same p (suc p) k (suc k) n _ _ (first_same (suc p) (suc k) n)

-- The pairs of a pack's rules are those of its rules by places.
pub held_by : (G : Clauses → Clauses → ℕ) (p : Pack) (n : ℕ) (r : Result (Unit {0}) Clash) → Sized p → n ≡ min p.count 6
    → r ≡ first_pair (by_clauses G) (0 + 1) (stretch (bare_rule (table_of p) p.relations p.clauses) 0 (n - 0)) → r ≡ first_pair (by_clauses G) 1 (held_rules p)
held_by G p n r f e h =
    h ∙ ap (λ (m : ℕ). first_pair (by_clauses G) 1 (stretch (bare_rule (table_of p) p.relations p.clauses) 0 m)) (sub-zero n ∙ e)
    ∙ first_same G (bare_rule (table_of p) p.relations p.clauses) (rule_at p) (λ j. refl) 1 0 (min p.count 6)
    ∙ sym (ap (first_pair (by_clauses G) 1) (held_rules_law p f))

-- The check of a pack by the search that is run.
pub held_is : (p : Pack) (n : ℕ) (r : Result (Unit {0}) Clash) → Sized p → n ≡ min p.count 6 → r ≡ first_pair fast_clash (0 + 1) (stretch (bare_rule (table_of p) p.relations p.clauses) 0 (n - 0)) → r ≡ check_of (held_rules p)
held_is p n r f e h = held_by (λ (a b : Clauses). fast_rank (both_of a b)) p n r f e h ∙ sym (check_fast (held_rules p))
