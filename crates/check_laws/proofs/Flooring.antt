-- Lower bounds of a search: what they spare, and that a joined clause has those of its parts.
use mathlib.Core.Path.{◌≡◌, refl, sym, ap, ap₂, subst, ◌∙◌}
use mathlib.Core.Bool.{Bool, true, false}
use mathlib.Core.List.{List, [], ◌∷◌, ◌++◌, append-nil}
use mathlib.Core.Logic.{⊎_elim}
use Prim.Native.Nat.{ℕ, ◌-◌, ◌^◌, ◌≤◌, ◌<◌, min, max}
use native.Mathlib.Omega.{arith}
use native.Mathlib.Decide.{ℕ_discrete}
use lib.Dec.{ltb, eqb}
use lib.ListN.{get_or, length, set, replicate, get_or-replicate, get_or-eq_default}
use lib.Seq.{set_out, get_or-set_same, get_or-set_other}
use borrow.Author.Tests.{lt-ltb, le-ltb, ltb-false}
use Rattle.std.specs.Prelude.{if◌then◌else◌}
use Rattle.decimal.specs.Choice.{both}
use Rattle.decimal.proofs.Choices.{tested, not_both, either_false}
use Rattle.decimal.specs.Lists.{all}
use Rattle.number.specs.Limits.{max_digits, max_places}
use Rattle.pack_rules.specs.Syntax.{Relation}
use Rattle.pack_rules.specs.Stretch.{Table, relations_in, relation_at, start_at, ranges_from_at, clause_at}
use Rattle.pack_rules.proofs.Stretches.{stretch_nil}
use Rattle.check_laws.specs.Seek.{Least}
use Rattle.check_laws.proofs.Seeking.{split, and_false_left, and_false_right, least_none, least_after}
use Rattle.check_laws.specs.Fast.{Query, factor, query_i, query_t, alone, alone_of, asks_of, integer_of, passes, ends, passes_all, search}
use Rattle.check_laws.specs.Read.{joined_in}
use Rattle.check_laws.specs.Ready.{ready, least_in}
use Rattle.check_laws.specs.Floors.{NoneBelow, Under, floors_at, Floored, long_in}
use Rattle.check_laws.specs.declared.Floors.{Floors}
use Rattle.check_laws.specs.declared.Span.{Span}
use Rattle.check_laws.proofs.Searched.{all_append, search_least, least_search}
use Rattle.check_laws.proofs.Placing.{all_alone}

-- ---- a search that starts at a floor

module _ (q : Query) (c : List Relation) (lo hi f m : ℕ) (n : NoneBelow q c f) (e : m ≡ max lo f) where
  pub search_from : (r : ℕ) → m ≤ hi → r ≡ search q c m hi → r ≡ search q c lo hi
  search_from r h g =
      least_search q c lo hi r (omega arith)
      (least_after (omega arith) (λ j a b. n j (omega arith))
      (subst (λ (x : ℕ). Least (passes_all q c) m hi x) (sym g) (search_least q c m hi h)))

  pub search_past : lo ≤ hi → hi ≤ m → hi ≡ search q c lo hi
  search_past l h = least_search q c lo hi hi l (least_none (passes_all q c) lo hi l (λ j a b. n j (omega arith)))

-- and where the search may have no room
module _ (T : Table) (s : Span) (q : Query) (lo hi f m : ℕ) (n : NoneBelow q (joined_in T s) f) (e : m ≡ max lo f) where
  pub least_from : (r : ℕ) → m ≤ hi → r ≡ least_in T s q m hi → r ≡ least_in T s q lo hi
  least_from r h g =
      let same : ready s q m hi ≡ ready s q lo hi = rw (le-ltb hi m h, le-ltb hi lo (omega arith)) in
      tested (ready s q lo hi)
      (λ z. rw z (search_from q (joined_in T s) lo hi f m n e r h (rw (same ∙ z) at g)))
      (λ z. rw z (rw (same ∙ z) at g))

  pub least_past : hi ≤ m → hi ≡ least_in T s q lo hi
  least_past h =
      tested (ltb hi lo)
      (λ z. rw z)
      (λ z.
      tested (ready s q lo hi)
      (λ y. rw y (search_past q (joined_in T s) lo hi f m n e (ltb-false hi lo z) h))
      (λ y. rw y))

-- ---- the floors of a search

-- nothing below what a search finds passes
pub below_found : (q : Query) (c : List Relation) (hi r : ℕ) → r ≡ search q c 0 hi → NoneBelow q c r
below_found q c hi r e x h = (search_least q c 0 hi (omega arith)).none x (omega arith) (omega arith)

pub below_alone : (c : List Relation) (t : ℕ) → t ≡ alone_of c → NoneBelow alone c t
unfolding alone_of
below_alone c t e = below_found alone c (10 ^ max_places) t e

-- what fails by what is asked of t alone fails before k zeros too
pub below_tail : (c : List Relation) (k p f : ℕ) → p ≡ 10 ^ k → NoneBelow alone c f → NoneBelow (record { n = 0; i = 0; f = p; t = 1; odd = true }) c f
below_tail c k p f e n x h =
    subst (λ (y : ℕ). passes_all (record { n = 0; i = 0; f = y; t = 1; odd = true }) c x ≡ false) (sym e)
    (tested (passes_all (query_t k) c x) (λ z. not_both (all_alone k x c z) (n x h)) (λ z. z))

-- the floor of i by whether f is 0
pub below_integer : (c : List Relation) (w : Bool) (o f : ℕ) → o ≡ (if w then 1 else 0) → NoneBelow (query_i w) c f → NoneBelow (record { n = o; i = 1; f = 0; t = 0; odd = false }) c f
below_integer c w o f e n x h = subst (λ (y : ℕ). passes_all (record { n = y; i = 1; f = 0; t = 0; odd = false }) c x ≡ false) (sym e) (n x h)

-- ---- the floors of a clause

pub under_none : (c : List Relation) → Under c (record { whole = 0; part = 0; tail = 0 })
under_none c = record { whole = λ x h. absurd (omega arith); part = λ x h. absurd (omega arith); tail = λ x h. absurd (omega arith) }

-- three searches
module _ (c : List Relation) (l : Floors) where
  pub found_integer : (w : Bool) (r : ℕ) → r ≡ integer_of w 0 c → r ≡ search (query_i w) c 0 (10 ^ max_digits)
  unfolding integer_of
  found_integer w r e = e

  pub found_tail : (r : ℕ) → r ≡ alone_of c → r ≡ search alone c 0 (10 ^ max_places)
  unfolding alone_of
  found_tail r e = e

  pub under_found : l.whole ≡ search (query_i true) c 0 (10 ^ max_digits) → l.part ≡ search (query_i false) c 0 (10 ^ max_digits) → l.tail ≡ search alone c 0 (10 ^ max_places) → Under c l
  under_found a b t = record { whole = below_found _ c _ _ a; part = below_found _ c _ _ b; tail = below_found _ c _ _ t }

-- ---- joined clauses

fails_left : (q : Query) (c d : List Relation) (x : ℕ) → passes_all q c x ≡ false → passes_all q (c ++ d) x ≡ false
unfolding passes_all
fails_left q c d x h = ap (both (ends q x)) (all_append (λ (r : Relation). passes q r x) c d) ∙ go (ends q x) (all (λ (r : Relation). passes q r x) c) (all (λ (r : Relation). passes q r x) d) h
  where
    go : (e a b : Bool) → both e a ≡ false → both e (both a b) ≡ false
    go true a b k = and_false_left b k
    go false a b k = refl

fails_right : (q : Query) (c d : List Relation) (x : ℕ) → passes_all q d x ≡ false → passes_all q (c ++ d) x ≡ false
unfolding passes_all
fails_right q c d x h = ap (both (ends q x)) (all_append (λ (r : Relation). passes q r x) c d) ∙ go (ends q x) (all (λ (r : Relation). passes q r x) c) (all (λ (r : Relation). passes q r x) d) h
  where
    go : (e a b : Bool) → both e b ≡ false → both e (both a b) ≡ false
    go true a b k = and_false_right a k
    go false a b k = refl

below_join : (q : Query) (c d : List Relation) (f g m : ℕ) → m ≡ max f g → NoneBelow q c f → NoneBelow q d g → NoneBelow q (c ++ d) m
below_join q c d f g m e n o x h =
    ⊎_elim (λ z. fails_left q c d x (n x z)) (λ z. fails_right q c d x (o x (omega arith))) (split x f)

-- a joined clause has the greater of each
pub under_join : (c d : List Relation) (a b l : Floors) → l.whole ≡ max a.whole b.whole → l.part ≡ max a.part b.part → l.tail ≡ max a.tail b.tail
    → Under c a → Under d b → Under (c ++ d) l
under_join c d a b l w p t u v =
    record {
      whole = below_join (query_i true) c d a.whole b.whole l.whole w u.whole v.whole;
      part = below_join (query_i false) c d a.part b.part l.part p u.part v.part;
      tail = below_join alone c d a.tail b.tail l.tail t u.tail v.tail;
    }

-- ---- the floors of a pack's clauses

-- what is put into a list stands there, or past its end nothing does
set_most : (l : List ℕ) (j v : ℕ) → get_or (set l j v) j 0 ≤ v
set_most l j v =
    ⊎_elim (λ h. omega (arith, get_or-set_same l j v 0 h))
    (λ h. omega (arith, ap (λ (z : List ℕ). get_or z j 0) (set_out l j v h), get_or-eq_default l 0 h)) (split j (length l))

module _ (T : Table) (R : List ℕ) where
  -- those of two clauses, as two stretches
  pub under_pair : (W P L : List ℕ) (l : Floors) (a b c d j k : ℕ) → a ≡ start_at R j → b ≡ min (get_or R j 0) 320 → c ≡ start_at R k → d ≡ min (get_or R k 0) 320
      → Floored T R W P L → j < 40 → k < 40 → l.whole ≡ max (get_or W j 0) (get_or W k 0) → l.part ≡ max (get_or P j 0) (get_or P k 0) → l.tail ≡ max (get_or L j 0) (get_or L k 0)
      → Under (relations_in T a b ++ relations_in T c d) l
  under_pair W P L l a b c d j k ea eb ec ed f hj hk w p t =
      subst (λ (x : List Relation). Under x l) (sym (ap₂ ◌++◌ (ap₂ (relations_in T) ea eb) (ap₂ (relations_in T) ec ed)))
      (under_join (clause_at T R j) (clause_at T R k) (floors_at W P L j) (floors_at W P L k) l w p t (f j hj) (f k hk))

  -- those of one clause: the other stretch is empty
  pub under_one : (l : Floors) (a b j : ℕ) → a ≡ start_at R j → b ≡ min (get_or R j 0) 320 → Under (relations_in T a b ++ relations_in T 0 0) l → Under (clause_at T R j) l
  under_one l a b j ea eb u =
      subst (λ (x : List Relation). Under x l)
      (ap₂ ◌++◌ (ap₂ (relations_in T) ea eb) (stretch_nil (relation_at T) 0 0 (omega arith)) ∙ append-nil (clause_at T R j)) u

  -- the arrays as they are made
  pub floored_fresh : Floored T R (replicate 40 0) (replicate 40 0) (replicate 40 0)
  floored_fresh j h =
      let z = get_or-replicate {A = ℕ} 40 j 0 0 h in
      record { whole = λ x k. absurd (omega arith); part = λ x k. absurd (omega arith); tail = λ x k. absurd (omega arith) }

  -- the floors of one clause more
  pub floored_set : (W P L : List ℕ) (l : Floors) (j : ℕ) → Floored T R W P L → Under (clause_at T R j) l
      → Floored T R (set W j l.whole) (set P j l.part) (set L j l.tail)
  floored_set W P L l j f u k h =
      elim (ℕ_discrete k j) [
        | yes e ↦ same k e
        | no n ↦ other k n h
      ]
    where
      same : (k : ℕ) → k ≡ j → Under (clause_at T R k) (floors_at (set W j l.whole) (set P j l.part) (set L j l.tail) k)
      same k e =
          subst (λ (k : ℕ). Under (clause_at T R k) (floors_at (set W j l.whole) (set P j l.part) (set L j l.tail) k)) (sym e)
          (record {
            whole = λ x z. u.whole x (omega (arith, set_most W j l.whole));
            part = λ x z. u.part x (omega (arith, set_most P j l.part));
            tail = λ x z. u.tail x (omega (arith, set_most L j l.tail));
          })

      other : (k : ℕ) → (k ≡ j → ⊥) → k < 40 → Under (clause_at T R k) (floors_at (set W j l.whole) (set P j l.part) (set L j l.tail) k)
      other k n h =
          record {
            whole = λ x z. (f k h).whole x (omega (arith, get_or-set_other W j k l.whole 0 n));
            part = λ x z. (f k h).part x (omega (arith, get_or-set_other P j k l.part 0 n));
            tail = λ x z. (f k h).tail x (omega (arith, get_or-set_other L j k l.tail 0 n));
          }

-- ---- a long clause

pub long_none : (columns : List ℕ) (least from to : ℕ) → to ≤ from → false ≡ long_in columns least from to
long_none columns least from to h = rw (le-ltb from to h)

pub long_less : (columns : List ℕ) (least from to a b : ℕ) → from < to → a ≡ ranges_from_at columns from → b ≡ ranges_from_at columns to → b < a → false ≡ long_in columns least from to
long_less columns least from to a b h ea eb l = rw (lt-ltb from to h) (sym (le-ltb least (ranges_from_at columns to - ranges_from_at columns from) (omega arith)))

pub long_some : (columns : List ℕ) (least from to a b : ℕ) → from < to → a ≡ ranges_from_at columns from → b ≡ ranges_from_at columns to → ltb least (b - a) ≡ long_in columns least from to
long_some columns least from to a b h ea eb = rw (lt-ltb from to h) (ap₂ (λ (x y : ℕ). ltb least (y - x)) ea eb)

-- ---- where no relation asks n, i is the same whether f is 0 or not

one_kind : (x : ℕ) (r : Relation) → eqb r.operand 110 ≡ false → passes (query_i false) r x ≡ passes (query_i true) r x
unfolding passes factor
one_kind x r n = rw n

pub each_kind : (x : ℕ) (c : List Relation) → asks_of 110 c ≡ false → all (λ (r : Relation). passes (query_i false) r x) c ≡ all (λ (r : Relation). passes (query_i true) r x) c
each_kind x [] h = refl
each_kind x (r ∷ rs) h =
    let n = either_false (eqb r.operand 110) (asks_of 110 rs) h in
    ap₂ both (one_kind x r n.0) (each_kind x rs n.1)

pub tail_past : (c : List Relation) (f : ℕ) → NoneBelow alone c f → 10 ^ max_places ≤ f → 10 ^ max_places ≡ alone_of c
unfolding alone_of
tail_past c f n l = search_past alone c 0 (10 ^ max_places) f (max 0 f) n refl (omega arith) (omega arith)
