-- What the code of two rules works out: the least over the joined clauses.
use mathlib.Core.Path.{◌≡◌, sym, ap₂, ◌∙◌}
use mathlib.Core.List.{List, [], ◌∷◌, ◌++◌}
use Prim.Native.Nat.{ℕ, ◌+◌, ◌≤◌, ◌<◌, min}
use native.Mathlib.Omega.{arith}
use lib.ListN.{get_or}
use Rattle.pack_rules.specs.Syntax.{Relation}
use Rattle.check_laws.specs.Check.{ranks}
use Rattle.check_laws.specs.Fast.{clause_rank, fast_rank, with_each, both_of}
use Rattle.pack_rules.specs.Stretch.{Table, relations_in, start_at, clause_at, clauses_in}
use Rattle.check_laws.specs.Read.{rule_clauses}
use Rattle.pack_rules.proofs.Stretches.{stretch_cons, stretch_nil}
use Rattle.check_laws.proofs.FastIs.{fast_least}

fast_append : (a b : List (List Relation)) → fast_rank (a ++ b) ≡ min (fast_rank a) (fast_rank b)
unfolding fast_rank
fast_append [] b = omega (arith, (fast_least b).high)
fast_append (c ∷ a) b = rw (fast_append a b) (omega arith)

module _ (T : Table) (R : List ℕ) where
  -- one clause with each of a stretch
  module _ (k to : ℕ) where
    pub each_more : (x y z l : ℕ) → l < to → y ≡ clause_rank (clause_at T R k ++ clause_at T R l) → z ≡ min x y
        → min x (fast_rank (with_each (clause_at T R k) (clauses_in T R l to))) ≡ min z (fast_rank (with_each (clause_at T R k) (clauses_in T R (l + 1) to)))
    unfolding fast_rank with_each
    each_more x y z l h e f = rw (stretch_cons (clause_at T R) l to h, f, e) (omega arith)

    pub each_end : (x l : ℕ) → to ≤ l → x ≤ ranks → min x (fast_rank (with_each (clause_at T R k) (clauses_in T R l to))) ≡ x
    unfolding fast_rank with_each
    each_end x l h b = rw (stretch_nil (clause_at T R) l to h) (omega arith)

  -- each of a stretch with each of another
  module _ (to start stop : ℕ) where
    pub both_start : (x from : ℕ) → x ≡ ranks → min x (fast_rank (both_of (clauses_in T R from to) (clauses_in T R start stop))) ≡ fast_rank (both_of (clauses_in T R from to) (clauses_in T R start stop))
    both_start x from e = omega (arith, (fast_least (both_of (clauses_in T R from to) (clauses_in T R start stop))).high)

    both_one : (x z k : ℕ) → k < to → z ≡ min x (fast_rank (with_each (clause_at T R k) (clauses_in T R start stop)))
        → min x (fast_rank (both_of (clauses_in T R k to) (clauses_in T R start stop))) ≡ min z (fast_rank (both_of (clauses_in T R (k + 1) to) (clauses_in T R start stop)))
    unfolding both_of
    both_one x z k h e =
        rw (stretch_cons (clause_at T R) k to h, fast_append (with_each (clause_at T R k) (clauses_in T R start stop)) (both_of (clauses_in T R (k + 1) to) (clauses_in T R start stop)), e) (omega arith)

    pub both_more : (x z k y : ℕ) → k < to → z ≡ min x (fast_rank (with_each (clause_at T R k) (clauses_in T R start stop)))
        → min x (fast_rank (both_of (clauses_in T R k to) (clauses_in T R start stop))) ≡ y → min z (fast_rank (both_of (clauses_in T R (k + 1) to) (clauses_in T R start stop))) ≡ y
    both_more x z k y h e g = sym (both_one x z k h e) ∙ g

    both_none : (x k : ℕ) → to ≤ k → x ≤ ranks → x ≡ min x (fast_rank (both_of (clauses_in T R k to) (clauses_in T R start stop)))
    unfolding both_of fast_rank
    both_none x k h b = rw (stretch_nil (clause_at T R) k to h) (omega arith)

    pub both_end : (x k y : ℕ) → to ≤ k → x ≤ ranks → min x (fast_rank (both_of (clauses_in T R k to) (clauses_in T R start stop))) ≡ y → x ≡ y
    both_end x k y h b g = both_none x k h b ∙ g

  pub joined_is : (x a b c d k l : ℕ) → a ≡ start_at R k → b ≡ min (get_or R k 0) 320 → c ≡ start_at R l → d ≡ min (get_or R l 0) 320
      → x ≡ clause_rank (relations_in T a b ++ relations_in T c d) → x ≡ clause_rank (clause_at T R k ++ clause_at T R l)
  joined_is x a b c d k l ea eb ec ed h = h ∙ ap₂ (λ (p q : List Relation). clause_rank (p ++ q)) (ap₂ (relations_in T) ea eb) (ap₂ (relations_in T) ec ed)

  pub pair_is : (C : List ℕ) (x a b c d p q : ℕ) → a ≡ start_at C p → b ≡ min (get_or C p 0) 40 → c ≡ start_at C q → d ≡ min (get_or C q 0) 40
      → x ≡ fast_rank (both_of (clauses_in T R a b) (clauses_in T R c d)) → x ≡ fast_rank (both_of (rule_clauses T R C p) (rule_clauses T R C q))
  pair_is C x a b c d p q ea eb ec ed h = h ∙ ap₂ (λ (u v : List (List Relation)). fast_rank (both_of u v)) (ap₂ (clauses_in T R) ea eb) (ap₂ (clauses_in T R) ec ed)
