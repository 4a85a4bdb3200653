-- Bounds for v are one relation more, which only the test of v and w asks.
use mathlib.Core.Path.{◌≡◌, refl, sym, ap, ◌∙◌}
use mathlib.Core.Bool.{Bool, true, false}
use mathlib.Core.List.{List}
use Prim.Native.Nat.{ℕ, ◌-◌, ◌%◌, ◌^◌, ◌≤◌, ◌<◌}
use native.Mathlib.Omega.{arith}
use native.Mathlib.Nat.{mod-zero}
use lib.Dec.{leb}
use borrow.Author.Tests.{le-leb, lt-leb}
use Rattle.decimal.specs.Choice.{both, either}
use Rattle.number.specs.Limits.{max_exponent, max_digits, max_places}
use Rattle.number.specs.declared.Number.{Number}
use Rattle.pack_rules.specs.Syntax.{Relation}
use Rattle.meaning.specs.Meaning.{in_range, clause_holds}
use Rattle.check_laws.proofs.Seeking.{and_false_left, least_one, seek_least}
use Rattle.check_laws.specs.Bounded.{from_to, within_places, places_between, bounded}
use Rattle.check_laws.specs.Check.{lowest, admits, number_at, ranked, ranks, found, least_rank}
use Rattle.check_laws.specs.Fast.{Query, factor, listed, test, passes, passes_all, query_t, search, alone, alone_of, query_f, least_f, tail_of, integer_of, clause_rank}
use Rattle.check_laws.specs.declared.Bounds.{Bounds}
use Rattle.check_laws.proofs.FastIs.{lowest_le, least_same, clause_least}
use Rattle.check_laws.proofs.Searched.{search_least}

-- one range, of values without a remainder
one_range : (b : Bounds) (v : ℕ) → either (in_range (v % 0) (record { low = b.least.0; high = b.most.0 })) false ≡ from_to b v
one_range b v = rw (mod-zero v) (alone (leb b.least.0 v) (leb v b.most.0))
  where
    alone : (p q : Bool) → either (both p q) false ≡ both p q
    alone true true = refl
    alone true false = refl
    alone false q = refl

module _ (b : Bounds) where
  -- the one test and the other
  pub below_least : (v : ℕ) → v < b.least.0 → false ≡ from_to b v
  below_least v h = sym (and_false_left (leb v b.most.0) (lt-leb b.least.0 v h))

  pub from_least : (v : ℕ) → b.least.0 ≤ v → leb v b.most.0 ≡ from_to b v
  from_least v h = sym (ap (λ (x : Bool). both x (leb v b.most.0)) (le-leb b.least.0 v h))

  pub places_test : (v : ℕ) → test (places_between b) v ≡ from_to b v
  unfolding test listed
  places_test v = one_range b v

  module _ (c : List Relation) where
    -- ---- nothing else asks them

    pub bounded_search : (q : Query) (lo hi : ℕ) → lo ≤ hi → search q c lo hi ≡ search q (bounded b c) lo hi
    unfolding passes_all passes factor
    bounded_search q lo hi h = least_one (search_least q c lo hi h) (search_least q (bounded b c) lo hi h)

    pub bounded_alone : alone_of c ≡ alone_of (bounded b c)
    unfolding alone_of
    bounded_alone = bounded_search alone 0 (10 ^ max_places) (omega arith)

    pub bounded_f : least_f c ≡ least_f (bounded b c)
    unfolding least_f
    bounded_f = bounded_search query_f 1 (10 ^ max_places) (omega arith)

    pub bounded_tail : (k : ℕ) → tail_of k c ≡ tail_of k (bounded b c)
    unfolding tail_of
    bounded_tail k = bounded_search (query_t k) 0 (10 ^ (max_places - k)) (omega arith)

    pub bounded_integer : (w : Bool) (e : ℕ) → e ≤ max_exponent → integer_of w e c ≡ integer_of w e (bounded b c)
    unfolding integer_of
    bounded_integer w e h = bounded_search _ (lowest e) (10 ^ max_digits) (lowest_le e h)

    -- ---- the search is that of the definition

    bounded_holds : (x : Number) → clause_holds (bounded b c) x ≡ both (within_places b x) (clause_holds c x)
    bounded_holds x = ap (λ (y : Bool). both y (clause_holds c x)) (one_range b x.v.0)

    pub bounded_least : (r : ℕ) → r ≡ clause_rank (bounded b c) → r ≡ least_rank (λ (x : Number). both (within_places b x) (clause_holds c x))
    unfolding least_rank found
    bounded_least r e =
        e ∙ least_one
        (least_same (λ j. ap (both (admits (ranked j))) (bounded_holds (number_at (ranked j)))) (clause_least (bounded b c)))
        (seek_least (found (λ (x : Number). both (within_places b x) (clause_holds c x))) ranks 0)

-- ---- bounds that every admitted number has

module _ (b : Bounds) (lo : b.least.0 ≡ 0) (hi : b.most.0 ≡ max_places) (c : List Relation) where
  same : (j : ℕ) → both (admits (ranked j)) (clause_holds c (number_at (ranked j))) ≡ both (admits (ranked j)) (both (within_places b (number_at (ranked j))) (clause_holds c (number_at (ranked j))))
  same j =
      let v : (ranked j).v.0 ≤ max_places = omega arith in
      rw (le-leb b.least.0 (ranked j).v.0 (omega arith), le-leb (ranked j).v.0 b.most.0 (omega arith))

  pub unbounded : (r : ℕ) → r ≡ least_rank (λ (x : Number). both (within_places b x) (clause_holds c x)) → r ≡ clause_rank c
  unfolding least_rank found
  unbounded r e =
      e ∙ least_one
      (seek_least (found (λ (x : Number). both (within_places b x) (clause_holds c x))) ranks 0)
      (least_same same (clause_least c))
