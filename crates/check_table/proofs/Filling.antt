-- A level's segments, stored one behind the other as they are found.
use mathlib.Core.Path.{◌≡◌, refl, sym, ap, ◌∙◌}
use mathlib.Core.Bool.{Bool, true, false}
use mathlib.Core.List.{List, [], ◌∷◌, ◌++◌}
use mathlib.Core.Logic.{⊎_elim}
use Prim.{tt}
use Prim.Native.Nat.{ℕ, suc, ◌+◌, ◌-◌, ◌%◌, ◌≤◌, ◌<◌}
use native.Mathlib.Omega.{arith}
use native.Mathlib.Nat.{mod-lt, mod-eq_of_lt}
use lib.ListN.{length, set}
use lib.Seq.{get_or-set_same, get_or-set_other}
use Rattle.decimal.specs.Choice.{both, either}
use Rattle.decimal.proofs.Choices.{both_true}
use Rattle.pack_rules.proofs.Stretches.{stretch_cons, stretch_nil, stretch_snoc, stretch_same}
use Rattle.check_laws.specs.Segments.{Segment, segment, within, inside, Rising, Starts, first, Level}
use Rattle.check_laws.proofs.Seeking.{split}
use Rattle.check_laws.proofs.Segmented.{before, behind, between, rising_end, rising_up}
use Rattle.check_next.specs.Table.{segment_at, segments_in}
use Rattle.check_table.specs.Building.{Opens, Covers}

-- ---- one segment more behind a list

inside_none : (x : ℕ) → inside [] x ≡ false
unfolding inside
inside_none x = refl

inside_snoc : (l : List Segment) (s : Segment) (x : ℕ) → inside (l ++ (s ∷ [])) x ≡ either (inside l x) (within s x)
unfolding inside
inside_snoc [] s x = alone (within s x)
  where
    alone : (b : Bool) → either b false ≡ b
    alone true = refl
    alone false = refl
inside_snoc (t ∷ l) s x = ap (either (within t x)) (inside_snoc l s x) ∙ assoc (within t x) (inside l x) (within s x)
  where
    assoc : (a b c : Bool) → either a (either b c) ≡ either (either a b) c
    assoc true b c = refl
    assoc false b c = refl

rising_snoc : (k p m : ℕ) (l : List Segment) (s : Segment) → Rising k p l → p ≤ s.from → s.from ≤ s.to → suc s.to ≤ m → Rising k m (l ++ (s ∷ []))
unfolding Rising
rising_snoc k p m [] s r a b c = (omega arith, b, c)
rising_snoc k p m (t ∷ l) s r a b c = (r.0, r.1, rising_snoc (suc t.to) p m l s r.2 a b c)

starts_snoc : (Q : ℕ → Bool) (l : List Segment) (s : Segment) → Starts Q l → Q s.from ≡ true → Starts Q (l ++ (s ∷ []))
unfolding Starts
starts_snoc Q [] s h e = (e, tt)
starts_snoc Q (t ∷ l) s h e = (h.0, starts_snoc Q l s h.1 e)

-- past the last segment there is none
rising_above : (k m x : ℕ) (l : List Segment) → Rising k m l → m ≤ x → inside l x ≡ false
unfolding Rising inside
rising_above k m x [] r h = refl
rising_above k m x (s ∷ l) r h =
    rw (behind s x (omega (arith, rising_end (suc s.to) m l r.2))) (rising_above (suc s.to) m x l r.2 h)

first_full : (k m : ℕ) (s : Segment) (l : List Segment) → Rising k m (s ∷ l) → first (s ∷ l) m < m
unfolding Rising first
first_full k m s l r = omega (arith, r.1, rising_end (suc s.to) m l r.2)

-- ---- the segments found so far

module _ (P Q : ℕ → Bool) where
  pub covers_start : Covers P Q [] 0
  unfolding Rising Starts
  covers_start = record { rising = omega arith; opened = tt; agree = λ x h. absurd (omega arith) }

  module _ {p m a stop : ℕ} (l : List Segment) (v : Covers P Q l p) (o : Opens P Q p m a stop) where
    -- up to the end, where none is found
    pub covers_done : p ≤ m → m ≤ a → Covers P Q l m
    covers_done h k =
        record {
          rising = rising_up 0 p m l h v.rising;
          opened = v.opened;
          agree = λ x b. ⊎_elim (λ (u : x < p). v.agree x u)
              (λ (u : p ≤ x). rw (rising_above 0 p x l v.rising u) (o.least.none x u (omega arith)))
              (split x p);
        }

    -- up to where the segment that is found ends
    pub covers_more : a < m → Covers P Q (l ++ (segment a (stop - 1) ∷ [])) stop
    covers_more h =
        let s = segment a (stop - 1) in
        let some = o.some h in
        record {
          rising = rising_snoc 0 p stop l s v.rising o.least.low (omega arith) (omega arith);
          opened = starts_snoc Q l s v.opened (both_true (P a) (Q a) (o.least.hit h)).1;
          agree = λ x b. rw (inside_snoc l s x)
              (⊎_elim (λ (u : x < p). early s x u o.least.low) (λ (u : p ≤ x). rw (rising_above 0 p x l v.rising u)
              (⊎_elim (λ (w : x < a). rw (before s x w) (o.least.none x u w))
              (λ (w : a ≤ x). rw (between s x w (omega arith), o.holds h x w b))
              (split x a)))
              (split x p));
        }
      where
        early : (s : Segment) (x : ℕ) → x < p → p ≤ s.from → both (P x) (Q x) ≡ both (either (inside l x) (within s x)) (Q x)
        early s x u k = v.agree x u ∙ rw (before s x (omega arith)) (alone (inside l x) (Q x))
          where
            alone : (c d : Bool) → both c d ≡ both (either c false) d
            alone true d = refl
            alone false d = refl

-- ---- the level that they make

module _ {P : ℕ → Bool} {Q R : ℕ → Bool} {m : ℕ} (pos : 0 < m) (l : List Segment) (v : Covers P Q l m)
    (made : (x : ℕ) → R x ≡ both (P (x % m)) (Q x)) (repeats : (x : ℕ) → R (x % m) ≡ R x) where
  agree : (x : ℕ) → x < m → R x ≡ both (inside l x) (Q x)
  agree x h = made x ∙ rw (mod-eq_of_lt h) (v.agree x h)

  pub covers_level : first l m < m → ((x : ℕ) → Q (x % m) ≡ Q x) → Level R Q m l
  covers_level f sooner =
      record { rising = v.rising; starts = v.opened; full = f; agree = agree; repeats = repeats; sooner = sooner }

  -- without segments there is no number
  pub covers_none : l ≡ [] → (x : ℕ) → R x ≡ false
  covers_none e x = sym (repeats x) ∙ agree (x % m) (mod-lt x pos) ∙ rw (e, inside_none (x % m))

-- ---- in the arrays

pub segments_none : (starts ends : List ℕ) (from n : ℕ) → n ≤ from → segments_in starts ends from n ≡ []
segments_none starts ends from n h = stretch_nil (segment_at starts ends) from n h

pub segments_more : (starts ends : List ℕ) (from n a b : ℕ) → from ≤ n → n < length starts → n < length ends
    → segments_in (set starts n a) (set ends n b) from (n + 1) ≡ segments_in starts ends from n ++ (segment a b ∷ [])
segments_more starts ends from n a b h i j =
    let count : n + 1 - from ≡ n - from + 1 = omega arith in
    let last : from + (n - from) ≡ n = omega arith in
    rw (count, stretch_snoc (segment_at (set starts n a) (set ends n b)) from (n - from), last, get_or-set_same starts n a 0 i, get_or-set_same ends n b 0 j)
    (ap (λ (l : List Segment). l ++ (segment a b ∷ []))
    (stretch_same from (n - from) (λ k l. let d : k ≡ n → ⊥ = λ e. omega arith in
    rw (get_or-set_other starts n k a 0 d, get_or-set_other ends n k b 0 d))))

pub segments_full : (starts ends : List ℕ) (from n k m : ℕ) → from < n → Rising k m (segments_in starts ends from n) → first (segments_in starts ends from n) m < m
segments_full starts ends from n k m h r =
    let e = stretch_cons (segment_at starts ends) from n h in
    rw e (first_full k m (segment_at starts ends from) (segments_in starts ends (from + 1) n) (rw e at r))
