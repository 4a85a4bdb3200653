-- A clause's relations by place, the runs that are kept of them, and the run of the clause.
use mathlib.Core.Path.{◌≡◌, refl, sym, ap, subst, ◌∙◌}
use mathlib.Core.Bool.{Bool, true, false, not}
use mathlib.Core.List.{List, ◌∷◌, ◌++◌}
use mathlib.Core.Logic.{⊎_elim}
use Prim.Native.Nat.{ℕ, zero, suc, ◌+◌, ◌-◌, ◌%◌, ◌≤◌, ◌<◌, min}
use native.Mathlib.Omega.{arith}
use native.Mathlib.Nat.{add-zero, add-suc, suc-add, zero-add}
use native.Mathlib.Decide.{ℕ_discrete}
use lib.Dec.{eqb}
use lib.ListN.{length, get_or, set}
use lib.Seq.{get_or-set_same, get_or-set_other}
use borrow.Author.Tests.{lt-ltb, le-ltb, eq-eqb, ne_eqb, eqb-true, eqb-false}
use Rattle.std.specs.Prelude.{if◌then◌else◌}
use Rattle.decimal.specs.Choice.{both}
use Rattle.decimal.specs.Lists.{all}
use Rattle.pack_rules.specs.Syntax.{Relation}
use Rattle.pack_rules.specs.Stretch.{stretch, Table, relation_at}
use Rattle.check_laws.specs.Seek.{Alike}
use Rattle.check_laws.proofs.Seeking.{split, and_false_left, and_false_right}
use Rattle.check_laws.specs.Fast.{passes, ends, passes_all}
use Rattle.check_laws.specs.Levels.{own_one, last_digit, own}
use Rattle.check_laws.specs.Read.{cap, joined_in}
use Rattle.check_laws.specs.declared.Query.{Query}
use Rattle.check_laws.specs.declared.Span.{Span}
use Rattle.check_runs.specs.Kept.{size_of, place_of, Told, Kept, Gathered, Listed}
use Rattle.check_relation.specs.Runs.{far}
use Rattle.check_relation.proofs.Levelling.{tier_other}
use Rattle.check_relation.proofs.Alikes.{alike_all}

-- ---- relations by place

-- equal elements at other places
moved : {A : Type 0} (g h : ℕ → A) (a b n : ℕ) → ((k : ℕ) → k < n → g (a + k) ≡ h (b + k)) → stretch g a n ≡ stretch h b n
unfolding stretch
moved g h a b zero e = refl
moved {A} g h a b (suc n) e =
    let first : g a ≡ h b = ap g (sym (add-zero a)) ∙ e 0 (omega arith) ∙ ap h (add-zero b) in
    rw first (ap (λ (l : List A). h b ∷ l) (moved g h (suc a) (suc b) n (λ k l. ap g (suc-add a k ∙ sym (add-suc a k)) ∙ e (suc k) (omega arith) ∙ ap h (add-suc b k ∙ sym (suc-add b k)))))

-- a stretch in two parts
parted : {A : Type 0} (g : ℕ → A) (a n m : ℕ) → stretch g a (n + m) ≡ stretch g a n ++ stretch g (a + n) m
unfolding stretch
parted g a zero m = rw (zero-add m, add-zero a)
parted {A} g a (suc n) m =
    let e : suc n + m ≡ suc (n + m) = omega arith in
    let f : suc a + n ≡ a + suc n = omega arith in
    rw e (ap (λ (l : List A). g a ∷ l) (parted g (suc a) n m ∙ rw f))

-- the relation of index k
abbrev pub relation_of : Table → Span → ℕ → Relation
relation_of T s k = relation_at T (place_of s k)

pub joined_by_place : (T : Table) (s : Span) → joined_in T s ≡ stretch (relation_of T s) 0 (size_of s)
joined_by_place T s =
    let n = s.to - s.from in
    let m = s.stop - s.start in
    let one : stretch (relation_at T) s.from n ≡ stretch (relation_of T s) 0 n = moved (relation_at T) (relation_of T s) s.from 0 n first in
    let two : stretch (relation_at T) s.start m ≡ stretch (relation_of T s) (0 + n) m = moved (relation_at T) (relation_of T s) s.start (0 + n) m second in
    rw (one, two) (sym (parted (relation_of T s) 0 n m))
  where
    first : (k : ℕ) → k < s.to - s.from → relation_at T (s.from + k) ≡ relation_of T s (0 + k)
    first k h = rw (zero-add k, lt-ltb k (s.to - s.from) h)

    second : (k : ℕ) → k < s.stop - s.start → relation_at T (s.start + k) ≡ relation_of T s (0 + (s.to - s.from) + k)
    second k h =
        let e : 0 + (s.to - s.from) + k ≡ (s.to - s.from) + k = omega arith in
        let f : (s.to - s.from) + k - (s.to - s.from) ≡ k = omega arith in
        rw (e, le-ltb ((s.to - s.from) + k) (s.to - s.from) (omega arith), f)

pub place_first : (s : Span) (k n : ℕ) → n ≡ s.to - s.from → k < n → s.from + k ≡ place_of s k
place_first s k n e h = rw (lt-ltb k (s.to - s.from) (omega arith))

pub place_second : (s : Span) (k n : ℕ) → n ≡ s.to - s.from → n ≤ k → s.start + (k - n) ≡ place_of s k
place_second s k n e h = rw (le-ltb k (s.to - s.from) (omega arith), e)

-- ---- all of a stretch

pub all_stretch : {A : Type 0} (p : A → Bool) (g : ℕ → A) (from n : ℕ) → ((k : ℕ) → k < n → p (g (from + k)) ≡ true) → all p (stretch g from n) ≡ true
unfolding stretch
all_stretch p g from zero e = refl
all_stretch p g from (suc n) e =
    let first : p (g from) ≡ true = ap (λ (k : ℕ). p (g k)) (sym (add-zero from)) ∙ e 0 (omega arith) in
    rw first (all_stretch p g (suc from) n (λ k l. ap (λ (i : ℕ). p (g i)) (suc-add from k ∙ sym (add-suc from k)) ∙ e (suc k) (omega arith)))

-- ---- the last digit

module _ (q : Query) (j p : ℕ) (h : p ≤ cap) where
  pub digit_not : q.odd ≡ false → Alike (last_digit q j) p true far
  unfolding last_digit
  digit_not e = alike_all (omega arith) (λ x. rw e)

  pub digit_elsewhere : (j ≡ 1 → ⊥) → Alike (last_digit q j) p true far
  unfolding last_digit
  digit_elsewhere n = alike_all (omega arith) (λ x. rw (ne_eqb j 1 n) (never q.odd (not (eqb x 0))))
    where
      never : (a b : Bool) → (if both a false then b else true) ≡ true
      never true b = refl
      never false b = refl

  pub digit_zero : q.odd ≡ true → j ≡ 1 → p ≡ 0 → Alike (last_digit q j) p false 1
  unfolding last_digit
  digit_zero e f z =
      record { some = omega arith; same = λ x l k. rw (e, eq-eqb j 1 f, eq-eqb x 0 (omega arith)) }

  pub digit_more : q.odd ≡ true → j ≡ 1 → (p ≡ 0 → ⊥) → Alike (last_digit q j) p true far
  unfolding last_digit
  digit_more e f n =
      record { some = omega arith; same = λ x l k. let z : x ≡ 0 → ⊥ = λ i. n (omega arith) in rw (e, eq-eqb j 1 f, ne_eqb x 0 z) }

-- ---- what is kept

module _ (T : Table) (s : Span) (q : Query) (j : ℕ) where
  -- where every run is empty, nothing is claimed
  pub kept_none : (p : ℕ) (says : List Bool) (stop : List ℕ) → ((k : ℕ) → get_or stop k 0 ≡ 0) → Kept T s q j p says stop
  kept_none p says stop z k l x a b = absurd (omega (arith, z k))

  pub kept_there : (p : ℕ) (says : List Bool) (stop : List ℕ) (k : ℕ) → Kept T s q j p says stop → k < size_of s → p < get_or stop k 0
      → Alike (own_one q j (relation_of T s k)) p (get_or says k false) (get_or stop k 0)
  kept_there p says stop k kept l h = record { some = h; same = λ x a b. kept k l x a b }

  pub kept_set : (p : ℕ) (says : List Bool) (stop : List ℕ) (k end : ℕ) (b : Bool) → k < length says → k < length stop
      → Alike (own_one q j (relation_of T s k)) p b end → Kept T s q j p says stop → Kept T s q j p (set says k b) (set stop k end)
  kept_set p says stop k end b m n a kept i l x u v = elim (ℕ_discrete i k) [ yes e ↦ here e | no d ↦ there d ]
    where
      here : i ≡ k → own_one q j (relation_of T s i) x ≡ get_or (set says k b) i false
      here e =
          let w : x < end = subst (λ (y : ℕ). x < y) (ap (λ (y : ℕ). get_or (set stop k end) y 0) e ∙ get_or-set_same stop k end 0 n) v in
          ap (λ (y : ℕ). own_one q j (relation_of T s y) x) e ∙ a.same x u w ∙ sym (ap (λ (y : ℕ). get_or (set says k b) y false) e ∙ get_or-set_same says k b false m)

      there : (i ≡ k → ⊥) → own_one q j (relation_of T s i) x ≡ get_or (set says k b) i false
      there d =
          kept i l x u (subst (λ (y : ℕ). x < y) (get_or-set_other stop k i end 0 d) v) ∙ sym (get_or-set_other says k i b false d)

-- ---- the relations of a level, listed

pub gathered_none : (tiers : List ℕ) (level : ℕ) (list : List ℕ) → Gathered tiers level list 0 0
gathered_none tiers level list = record { few = omega arith; each = λ i h. absurd (omega arith); covers = λ P f m h. absurd (omega arith) }

module _ (tiers : List ℕ) (level : ℕ) (list : List ℕ) (n k : ℕ) (g : Gathered tiers level list n k) (h : n < length list) where
  kept_before : (i : ℕ) → i < n → get_or (set list n k) i 0 ≡ get_or list i 0
  kept_before i l = get_or-set_other list n i k 0 (λ z. omega arith)

  pub gathered_more : (m : ℕ) → eqb (get_or tiers k 0) level ≡ true → m ≡ n + 1 → Gathered tiers level (set list n k) m (k + 1)
  gathered_more m t e =
      record {
        few = omega (arith, g.few);
        each = λ i l.
            ⊎_elim
            (λ a. subst (λ (x : ℕ). (x < k + 1) × (get_or tiers x 0 ≡ level)) (sym (kept_before i a)) (omega (arith, (g.each i a).0), (g.each i a).1))
            (λ a.
            let z : n ≡ i = omega arith in
            subst (λ (x : ℕ). (x < k + 1) × (get_or tiers x 0 ≡ level)) (sym (ap (λ (y : ℕ). get_or (set list n k) y 0) (sym z) ∙ get_or-set_same list n k 0 h)) (omega arith, eqb-true (get_or tiers k 0) level t))
            (split i n);
        covers = λ P f x l u.
            ⊎_elim
            (λ a. g.covers P (λ i b. subst (λ (y : ℕ). P y ≡ true) (kept_before i b) (f i (omega arith))) x a u)
            (λ a. subst (λ (y : ℕ). P y ≡ true) (get_or-set_same list n k 0 h ∙ (let z : k ≡ x = omega arith in z)) (f n (omega arith)))
            (split x k);
      }

  pub gathered_same : (m : ℕ) → eqb (get_or tiers k 0) level ≡ false → m ≡ n + 0 → Gathered tiers level (set list n k) m (k + 1)
  gathered_same m t e =
      record {
        few = omega (arith, g.few);
        each = λ i l.
            subst (λ (x : ℕ). (x < k + 1) × (get_or tiers x 0 ≡ level)) (sym (kept_before i (omega arith))) (let a = g.each i (omega arith) in (omega (arith, a.0), a.1));
        covers = λ P f x l u.
            ⊎_elim
            (λ a. g.covers P (λ i b. subst (λ (y : ℕ). P y ≡ true) (kept_before i b) (f i (omega arith))) x a u)
            (λ a. absurd (eqb-false (get_or tiers k 0) level t (ap (λ (y : ℕ). get_or tiers y 0) (let z : k ≡ x = omega arith in z) ∙ u)))
            (split x k);
      }

module _ (T : Table) (s : Span) (q : Query) (j : ℕ) where
  pub gathered_listed : (tiers list : List ℕ) (n k : ℕ) → j < 9 → Told T s q tiers → k ≡ size_of s → k ≤ 16 → Gathered tiers j list n k → Listed T s q j list n
  gathered_listed tiers list n k v t e h g =
      record {
        level = v;
        few = omega (arith, g.few);
        each = λ i l. let a = g.each i l in (omega (arith, a.0), sym a.1 ∙ t (get_or list i 0) (omega (arith, a.0)));
        covers = λ x f m l.
            elim (ℕ_discrete (get_or tiers m 0) j) [
              | yes z ↦ g.covers (λ (y : ℕ). own_one q j (relation_of T s y) x) f m (omega arith) z
              | no z ↦ tier_other q (relation_of T s m) (get_or tiers m 0) j x (t m l) z
            ];
      }

-- ---- the run of the clause

all_no : {A : Type 0} (p : A → Bool) (g : ℕ → A) (from n k : ℕ) → from ≤ k → k < from + n → p (g k) ≡ false → all p (stretch g from n) ≡ false
unfolding stretch
all_no p g from zero k l h e = absurd (omega arith)
all_no p g from (suc n) k l h e =
    elim (ℕ_discrete k from) [
      | yes z ↦ and_false_left (all p (stretch g (suc from) n)) (subst (λ (x : ℕ). p (g x) ≡ false) z e)
      | no z ↦ and_false_right (p (g from)) (all_no p g (suc from) n k (omega arith) (omega arith) e)
    ]

-- the last digit and the first i relations that are listed say yes from p up to `end`
pub record Agreed (T : Table) (s : Span) (q : Query) (j : ℕ) (list : List ℕ) (p i end : ℕ) : Type 0 where
  pub some : p < end
  pub near : end ≤ far
  pub digit : (x : ℕ) → p ≤ x → x < end → last_digit q j x ≡ true
  pub each : (m : ℕ) → m < i → (x : ℕ) → p ≤ x → x < end → own_one q j (relation_of T s (get_or list m 0)) x ≡ true

module _ (T : Table) (s : Span) (q : Query) (j : ℕ) (list : List ℕ) (count p : ℕ) (li : Listed T s q j list count) where
  pub agreed_start : (b : Bool) (stop : ℕ) → Alike (last_digit q j) p b stop → b ≡ true → stop ≡ far → Agreed T s q j list p 0 far
  agreed_start b stop a t e =
      record { some = omega (arith, a.some); near = omega arith; digit = λ x l h. a.same x l (omega arith) ∙ t; each = λ m h. absurd (omega arith) }

  pub agreed_more : (i end stop e : ℕ) (b : Bool) → Agreed T s q j list p i end → Alike (own_one q j (relation_of T s (get_or list i 0))) p b stop → b ≡ true → e ≡ min end stop → Agreed T s q j list p (i + 1) e
  agreed_more i end stop e b g a t f =
      record {
        some = omega (arith, g.some, a.some);
        near = omega (arith, g.near);
        digit = λ x l h. g.digit x l (omega arith);
        each = λ m h x l k.
            ⊎_elim (λ u. g.each m u x l (omega arith)) (λ u. subst (λ (y : ℕ). own_one q j (relation_of T s (get_or list y 0)) x ≡ true) (let z : i ≡ m = omega arith in z) (a.same x l (omega arith) ∙ t)) (split m i);
      }

  -- all say yes; or the last digit, or one relation, says no
  pub agreed_all : (i end : ℕ) → count ≤ i → Agreed T s q j list p i end → Alike (own q (joined_in T s) j) p true end
  unfolding own
  agreed_all i end h g =
      record {
        some = g.some;
        same = λ x l k. rw (joined_by_place T s, g.digit x l k) (all_stretch (λ (r : Relation). own_one q j r x) (relation_of T s) 0 (size_of s) (λ m u.
            let z : 0 + m ≡ m = omega arith in rw z (li.covers x (λ i v. g.each i (omega arith) x l k) m u)));
      }

  pub digit_says_no : (b : Bool) (stop : ℕ) → Alike (last_digit q j) p b stop → b ≡ false → Alike (own q (joined_in T s) j) p b stop
  unfolding own
  digit_says_no b stop a t = record { some = a.some; same = λ x l k. and_false_left (all (λ (r : Relation). own_one q j r x) (joined_in T s)) (a.same x l k ∙ t) ∙ sym t }

  pub one_says_no : (i stop end : ℕ) (b : Bool) → i < count → p ≤ cap → Alike (own_one q j (relation_of T s (get_or list i 0))) p b stop → b ≡ false → end ≡ min stop far → Alike (own q (joined_in T s) j) p false end
  unfolding own
  one_says_no i stop end b h r a t e =
      record {
        some = omega (arith, a.some);
        same = λ x l k. rw (joined_by_place T s) (and_false_right (last_digit q j x) (all_no (λ (r : Relation). own_one q j r x) (relation_of T s) 0 (size_of s) (get_or list i 0) (omega arith) (omega (arith, (li.each i h).0)) (a.same x l (omega arith) ∙ t)));
      }

-- ---- a number against the whole clause

module _ (T : Table) (s : Span) (q : Query) (x : ℕ) where
  pub ends_not : (b : Bool) → b ≡ ends q x → b ≡ false → false ≡ passes_all q (joined_in T s) x
  unfolding passes_all
  ends_not b e f = sym (and_false_left (all (λ (r : Relation). passes q r x) (joined_in T s)) (sym e ∙ f))

  -- what the relations from index k on ask
  abbrev pub Rest : ℕ → Bool
  Rest k = all (λ (r : Relation). passes q r x) (stretch (relation_of T s) k (size_of s - k))

  pub rest_all : (b : Bool) → b ≡ ends q x → b ≡ true → Rest 0 ≡ passes_all q (joined_in T s) x
  unfolding passes_all
  rest_all b e f =
      let n : size_of s - 0 ≡ size_of s = omega arith in
      rw (n, sym e ∙ f, joined_by_place T s)

pub ends_digit : (q : Query) (x : ℕ) → q.odd ≡ true → not (eqb (x % 10) 0) ≡ ends q x
unfolding ends
ends_digit q x e = rw e

pub ends_any : (q : Query) (x : ℕ) → q.odd ≡ false → true ≡ ends q x
unfolding ends
ends_any q x e = rw e
