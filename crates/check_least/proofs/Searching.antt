-- What the search by levels finds is the least number that passes.
use mathlib.Core.Path.{◌≡◌, refl, sym, ap, ◌∙◌}
use mathlib.Core.Bool.{Bool, true, false}
use mathlib.Core.List.{List}
use mathlib.Core.Logic.{⊎_elim}
use Prim.Native.Nat.{ℕ, zero, suc, ◌+◌, ◌%◌, ◌^◌, ◌≤◌, ◌<◌}
use native.Mathlib.Omega.{arith}
use lib.ListN.{replicate, length-replicate}
use Rattle.decimal.specs.Choice.{both}
use Rattle.decimal.specs.Lists.{all}
use Rattle.pack_rules.specs.Syntax.{Relation}
use Rattle.pack_rules.specs.Stretch.{Table}
use Rattle.check_laws.specs.Seek.{Least}
use Rattle.check_laws.proofs.Seeking.{split, least_start, least_none, least_after, and_false_left, and_false_right}
use Rattle.check_laws.proofs.Segmented.{least_same}
use Rattle.check_laws.specs.Fast.{passes, ends, passes_all}
use Rattle.check_laws.specs.Levels.{levels, window, own, below, levelled}
use Rattle.check_laws.specs.Read.{joined_in}
use Rattle.check_laws.specs.Ready.{ready, least_in}
use Rattle.check_laws.specs.declared.Query.{Query}
use Rattle.check_laws.specs.declared.Span.{Span}
use Rattle.check_laws.proofs.Levelled.{levelled_split}
use Rattle.check_laws.proofs.Searched.{least_search}
use Rattle.check_next.specs.Table.{room, Laid}
use Rattle.check_table.specs.Building.{Opens}
use Rattle.check_table.proofs.Finding.{zeros}

-- ---- a search that has come to p

-- no number from lo on and before p passes
abbrev pub Passed : (ℕ → Bool) → ℕ → ℕ → Type 0
Passed P lo p = (lo ≤ p) × ((x : ℕ) → lo ≤ x → x < p → P x ≡ false)

module _ (P : ℕ → Bool) (lo hi p : ℕ) where
  pub passed_start : Passed P p p
  passed_start = (omega arith, λ x a b. absurd (omega arith))

  pub passed_more : Passed P lo p → (r : ℕ) → p ≤ r → ((x : ℕ) → p ≤ x → x < r → P x ≡ false) → Passed P lo r
  passed_more s r h n =
      (omega (arith, s.0), λ x a b. ⊎_elim (λ (k : x < p). s.1 x a k) (λ (k : p ≤ x). n x k b) (split x p))

  pub passed_one : Passed P lo p → P p ≡ false → Passed P lo (p + 1)
  passed_one s e = passed_more s (p + 1) (omega arith) (λ x a b. ap P (let q : x ≡ p = omega arith in q) ∙ e)

  pub passed_hit : Passed P lo p → p < hi → P p ≡ true → Least P lo hi p
  passed_hit s h e = least_after s.0 s.1 (least_start P p hi (omega arith) e)

  pub passed_end : Passed P lo p → lo ≤ hi → hi ≤ p → Least P lo hi hi
  passed_end s h k = least_none P lo hi h (λ x a b. s.1 x a (omega arith))

-- a number whose last digit does not pass does not
pub passed_ends : (q : Query) (c : List Relation) (lo r : ℕ) → lo ≤ r → ((x : ℕ) → lo ≤ x → x < r → ends q x ≡ false) → Passed (passes_all q c) lo r
unfolding passes_all
passed_ends q c lo r h n = (h, λ x a b. and_false_left (all (λ (r : Relation). passes q r x) c) (n x a b))

-- ---- by levels

module _ (q : Query) (c : List Relation) (e : levelled q c ≡ true) where
  pub least_levelled : {lo hi r stop : ℕ} → Opens (own q c window) (below q c levels) lo hi r stop → Least (passes_all q c) lo hi r
  least_levelled o = least_same (λ k _. sym (levelled_split q c k e)) o.least

  -- no number passes the levels
  pub least_empty : (lo hi : ℕ) → lo ≤ hi → ((x : ℕ) → below q c levels x ≡ false) → Least (passes_all q c) lo hi hi
  least_empty lo hi h n =
      least_none (passes_all q c) lo hi h (λ x _ _. levelled_split q c x e ∙ and_false_right (own q c window x) (n x))

  -- the window leaves no number before p
  module _ {lo hi p : ℕ} (w : Least (own q c window) lo hi p) where
    pub window_none : (x : ℕ) → lo ≤ x → x < p → passes_all q c x ≡ false
    window_none x a b = levelled_split q c x e ∙ and_false_left (below q c levels x) (w.none x a b)

    pub window_past : lo ≤ hi → hi ≤ p → Least (passes_all q c) lo hi hi
    window_past l h = least_none (passes_all q c) lo hi l (λ x a b. window_none x a (omega arith))

    pub window_hit : p < hi → passes_all q c p ≡ true → Least (passes_all q c) lo hi p
    window_hit h t = record { low = w.low; high = w.high; none = window_none; hit = λ _. t }

    pub window_on : {r : ℕ} → Least (passes_all q c) p hi r → Least (passes_all q c) lo hi r
    window_on l = least_after w.low window_none l

  -- the levels ask nothing
  below_free : (J x : ℕ) → ((j : ℕ) → j < J → (x : ℕ) → own q c j x ≡ true) → below q c J x ≡ true
  unfolding below
  below_free zero x f = refl
  below_free (suc j) x f = rw (f j (omega arith) (x % 10 ^ j)) (below_free j x (λ i h. f i (omega arith)))

  pub least_free : {lo hi r : ℕ} → ((j : ℕ) → j < 7 → (x : ℕ) → own q c j x ≡ true) → Least (own q c window) lo hi r → Least (passes_all q c) lo hi r
  least_free f l = least_same (λ k _. sym (levelled_split q c k e ∙ rw (below_free levels k f) (alone (own q c window k)))) l
    where
      alone : (b : Bool) → both b true ≡ b
      alone true = refl
      alone false = refl

-- ---- the arrays as they are made

pub laid_fresh : Laid (replicate room 0) (replicate room 0) (replicate 8 0) 0
laid_fresh =
    record {
      few = omega arith;
      rise = λ j h. absurd (omega arith);
      within = omega arith;
      low = λ k. omega (arith, zeros room k);
      high = λ k. omega (arith, zeros room k);
      starts_long = length-replicate {A = ℕ} room 0;
      ends_long = length-replicate {A = ℕ} room 0;
      at_long = length-replicate {A = ℕ} 8 0;
    }

-- ---- the answer

module _ (T : Table) (s : Span) (q : Query) (lo hi : ℕ) where
  pub answer_ready : (r : ℕ) → ready s q lo hi ≡ true → lo ≤ hi → Least (passes_all q (joined_in T s)) lo hi r → r ≡ least_in T s q lo hi
  answer_ready r e h l = rw e (least_search q (joined_in T s) lo hi r h l)

  pub answer_not : ready s q lo hi ≡ false → hi ≡ least_in T s q lo hi
  answer_not e = rw e
