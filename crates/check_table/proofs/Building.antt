-- A table that gets one level more, and the table of all levels.
use mathlib.Core.Path.{◌≡◌, refl, sym, ap, subst, ◌∙◌}
use mathlib.Core.Bool.{Bool, true, false}
use mathlib.Core.List.{List}
use mathlib.Core.Logic.{⊎_elim, inl, inr}
use Prim.Native.Nat.{ℕ, zero, suc, ◌+◌, ◌-◌, ◌*◌, ◌%◌, ◌^◌, ◌≤◌, ◌<◌}
use native.Mathlib.Omega.{arith}
use native.Mathlib.Decide.{ℕ_discrete}
use native.Mathlib.Nat.{pow-suc}
use native.Mathlib.Numerals.{add-one}
use lib.ListN.{length, get_or, set, length-set}
use lib.Seq.{get_or-set_same, get_or-set_other}
use Rattle.decimal.specs.Choice.{both}
use Rattle.decimal.proofs.Choices.{never}
use Rattle.decimal.proofs.Values.{power_pos, power_mono}
use Rattle.pack_rules.specs.Syntax.{Relation}
use Rattle.pack_rules.proofs.Stretches.{stretch_same}
use Rattle.check_laws.specs.Segments.{Segment, Level}
use Rattle.check_laws.proofs.Seeking.{split, and_false_right}
use Rattle.check_laws.specs.Levels.{own, below}
use Rattle.check_laws.specs.declared.Query.{Query}
use Rattle.check_laws.proofs.Levelled.{below_mod}
use Rattle.check_next.specs.Table.{room, segments_in, level_at, Small, Laid, Stands, Tabled}
use Rattle.check_table.specs.Building.{Opens, Covers, BuiltAs}
use Rattle.check_table.specs.declared.Built.{Built}
use Rattle.check_table.specs.declared.Built.TheVariants.{Stands as IsStanding, Empty, Full}
use Rattle.check_next.proofs.Tabling.{places_rise}
use Rattle.check_table.proofs.Filling.{covers_start, covers_more, covers_done, covers_level, covers_none, segments_none, segments_more, segments_full}

-- the modulus of a level
pub level_small : (j m : ℕ) → j < 7 → m ≡ 10 ^ j → m ≤ 1_000_000
level_small j m h e =
    let p : 10 ^ j ≤ 10 ^ 6 = power_mono {j = 6} (omega arith) in
    rw e p

-- ---- arrays that change

small_set : (l : List ℕ) (n a : ℕ) → n < length l → a ≤ 1_000_000 → Small l → Small (set l n a)
small_set l n a h b s k =
    elim (ℕ_discrete k n) [
      | yes e ↦ subst (λ (i : ℕ). get_or (set l n a) i 0 ≤ 1_000_000) (sym e) (subst (λ (v : ℕ). v ≤ 1_000_000) (sym (get_or-set_same l n a 0 h)) b)
      | no d ↦ subst (λ (v : ℕ). v ≤ 1_000_000) (sym (get_or-set_other l n k a 0 d)) (s k)
    ]

-- a segment is stored
laid_store : {starts ends at : List ℕ} {J : ℕ} (n a b : ℕ) → n < room → a ≤ 1_000_000 → b ≤ 1_000_000
    → Laid starts ends at J → Laid (set starts n a) (set ends n b) at J
laid_store {starts} {ends} n a b h x y l =
    record {
      few = l.few;
      rise = l.rise;
      within = l.within;
      low = small_set starts n a (omega (arith, l.starts_long)) x l.low;
      high = small_set ends n b (omega (arith, l.ends_long)) y l.high;
      starts_long = length-set starts n a ∙ l.starts_long;
      ends_long = length-set ends n b ∙ l.ends_long;
      at_long = l.at_long;
    }

-- What the levels below J say does not change where their segments and places do not.
module _
    (S : ℕ → ℕ → Bool) (starts ends at starts' ends' at' : List ℕ) (J : ℕ) (laid : Laid starts ends at J)
    (same_starts : (k : ℕ) → k < get_or at J 0 → get_or starts' k 0 ≡ get_or starts k 0)
    (same_ends : (k : ℕ) → k < get_or at J 0 → get_or ends' k 0 ≡ get_or ends k 0)
    (same_at : (i : ℕ) → i ≤ J → get_or at' i 0 ≡ get_or at i 0)
  where
    level_kept : (i : ℕ) → i < J → level_at starts' ends' at' i ≡ level_at starts ends at i
    level_kept i h =
        let a = laid.rise i h in
        let b = places_rise at (suc i) J laid.rise h in
        rw (same_at i (omega arith), same_at (suc i) h)
        (stretch_same (get_or at i 0) (get_or at (suc i) 0 - get_or at i 0)
        (λ k l. rw (same_starts k (omega arith), same_ends k (omega arith))))

    pub tabled_kept : Tabled S starts ends at J → Tabled S starts' ends' at' J
    tabled_kept t = record {
      free = t.free;
      stands = λ i h. ⊎_elim
          (λ f. inl (omega (arith, f.0, same_at i (omega arith), same_at (suc i) h), f.1))
          (λ f. inr (omega (arith, f.0, same_at i (omega arith), same_at (suc i) h), subst (λ (l : List Segment). Level (S (suc i)) (S i) (10 ^ i) l) (sym (level_kept i h)) f.1))
          (t.stands i h);
    }

-- one level more
pub tabled_more : (S : ℕ → ℕ → Bool) (starts ends at : List ℕ) (j : ℕ) → Tabled S starts ends at j → Stands S starts ends at j → Tabled S starts ends at (suc j)
tabled_more S starts ends at j t s =
    record {
      free = t.free;
      stands = λ i h. ⊎_elim (λ (k : i < j). t.stands i k) (λ (k : j ≤ i). subst (λ (n : ℕ). Stands S starts ends at n) (let e : j ≡ i = omega arith in e) s) (split i j);
    }

-- ---- the segments of a level, one by one

-- up to p they are stored, from the place of level j to before n
pub record Filling (S : ℕ → ℕ → Bool) (P : ℕ → Bool) (starts ends at : List ℕ) (j m n p : ℕ) : Type 0 where
  pub laid : Laid starts ends at j
  pub tabled : Tabled S starts ends at j
  pub some : get_or at j 0 ≤ n
  pub fits : n ≤ room
  pub reach : p ≤ m
  pub covers : Covers P (S j) (segments_in starts ends (get_or at j 0) n) p

module _ {S : ℕ → ℕ → Bool} {P : ℕ → Bool} {starts ends at : List ℕ} {j : ℕ} where
  pub filling_start : (m : ℕ) → Laid starts ends at j → Tabled S starts ends at j → Filling S P starts ends at j m (get_or at j 0) 0
  filling_start m l t =
      record {
        laid = l;
        tabled = t;
        some = omega arith;
        fits = l.within;
        reach = omega arith;
        covers = subst (λ (s : List Segment). Covers P (S j) s 0) (sym (segments_none starts ends (get_or at j 0) (get_or at j 0) (omega arith))) (covers_start P (S j));
      }

  module _ {m n p a stop : ℕ} (f : Filling S P starts ends at j m n p) (o : Opens P (S j) p m a stop) where
    pub filling_more : m ≤ 1_000_000 → n < room → a < m → Filling S P (set starts n a) (set ends n (stop - 1)) at j m (n + 1) stop
    filling_more few free h =
        let l = f.laid in
        let b = o.until h in
        record {
          laid = laid_store n a (stop - 1) free (omega arith) (omega arith) l;
          tabled = tabled_kept S starts ends at (set starts n a) (set ends n (stop - 1)) at j l
              (λ k i. get_or-set_other starts n k a 0 (λ e. omega (arith, f.some)))
              (λ k i. get_or-set_other ends n k (stop - 1) 0 (λ e. omega (arith, f.some)))
              (λ i _. refl) f.tabled;
          some = omega (arith, f.some);
          fits = omega arith;
          reach = b;
          covers = subst (λ (s : List Segment). Covers P (S j) s stop)
              (sym (segments_more starts ends (get_or at j 0) n a (stop - 1) f.some (omega (arith, l.starts_long)) (omega (arith, l.ends_long))))
              (covers_more P (S j) (segments_in starts ends (get_or at j 0) n) f.covers o h);
        }

    pub filling_done : m ≤ a → Covers P (S j) (segments_in starts ends (get_or at j 0) n) m
    filling_done h = covers_done P (S j) (segments_in starts ends (get_or at j 0) n) f.covers o f.reach h

  pub filling_all : {m n p : ℕ} → Filling S P starts ends at j m n p → m ≤ p → Covers P (S j) (segments_in starts ends (get_or at j 0) n) m
  filling_all {m} {n} {p} f h =
      subst (λ (k : ℕ). Covers P (S j) (segments_in starts ends (get_or at j 0) n) k) (let e : p ≡ m = omega (arith, f.reach) in e) f.covers

-- ---- what became of a table

module _ {S : ℕ → ℕ → Bool} {starts ends at : List ℕ} {j : ℕ} where
  pub is_standing : Laid starts ends at j → Tabled S starts ends at j → BuiltAs S starts ends at j IsStanding
  is_standing l t = record { stands = λ _. (l, t); empty = λ e. never (cc) }

  pub is_empty : ((x : ℕ) → S j x ≡ false) → BuiltAs S starts ends at j Empty
  is_empty n = record { stands = λ e. never (cc); empty = λ _. n }

  pub is_full : BuiltAs S starts ends at j Full
  is_full = record { stands = λ e. never (cc); empty = λ e. never (cc) }

-- ---- a level more

module _ (q : Query) (c : List Relation) where
  -- what the levels below j rule out, those below a later one do
  pub below_up : (x j k : ℕ) → j ≤ k → below q c j x ≡ false → below q c k x ≡ false
  unfolding below
  below_up x j zero h e = subst (λ (i : ℕ). below q c i x ≡ false) (let g : j ≡ 0 = omega arith in g) e
  below_up x j (suc k) h e =
      ⊎_elim (λ (l : k < j). subst (λ (i : ℕ). below q c i x ≡ false) (let g : j ≡ suc k = omega arith in g) e)
      (λ (l : j ≤ k). and_false_right (own q c k (x % 10 ^ k)) (below_up x j k l e))
      (split k j)

  made : (j x : ℕ) → below q c (suc j) x ≡ both (own q c j (x % 10 ^ j)) (below q c j x)
  unfolding below
  made j x = refl

  pub tabled_none : (starts ends at : List ℕ) → Tabled (below q c) starts ends at 0
  unfolding below
  tabled_none starts ends at = record { free = λ x. refl; stands = λ j h. absurd (omega arith) }

  module _ {starts ends at : List ℕ} {j : ℕ} (l : Laid starts ends at j) (t : Tabled (below q c) starts ends at j) (less : j < 7) where
    old : (n i : ℕ) → i ≤ j → get_or (set at (suc j) n) i 0 ≡ get_or at i 0
    old n i h = get_or-set_other at (suc j) i n 0 (λ e. omega arith)

    new : (n : ℕ) → get_or (set at (suc j) n) (suc j) 0 ≡ n
    new n = get_or-set_same at (suc j) n 0 (omega (arith, l.at_long))

    laid_more : (n : ℕ) → get_or at j 0 ≤ n → n ≤ room → Laid starts ends (set at (suc j) n) (suc j)
    laid_more n h k =
        record {
          few = less;
          rise = λ i b. ⊎_elim
              (λ (u : i < j). omega (arith, old n i (omega arith), old n (suc i) u, l.rise i u))
              (λ (u : j ≤ i). subst (λ (o : ℕ). get_or (set at (suc j) n) o 0 ≤ get_or (set at (suc j) n) (suc o) 0) (let e : j ≡ i = omega arith in e) (omega (arith, old n j (omega arith), new n)))
              (split i j);
          within = omega (arith, new n);
          low = l.low;
          high = l.high;
          starts_long = l.starts_long;
          ends_long = l.ends_long;
          at_long = length-set at (suc j) n ∙ l.at_long;
        }

    stood : (n : ℕ) → Tabled (below q c) starts ends (set at (suc j) n) j
    stood n = tabled_kept (below q c) starts ends at starts ends (set at (suc j) n) j l (λ k _. refl) (λ k _. refl) (old n) t

    -- a level that asks nothing
    pub added_free : ((x : ℕ) → own q c j x ≡ true) → BuiltAs (below q c) starts ends (set at (j + 1) (get_or at j 0)) (j + 1) IsStanding
    added_free e =
        let n = get_or at j 0 in
        rw add-one (is_standing (laid_more n (omega arith) l.within)
        (tabled_more (below q c) starts ends (set at (suc j) n) j (stood n)
        (inl (omega (arith, old n j (omega arith), new n), λ x. made j x ∙ rw (e (x % 10 ^ j))))))

    module _ (n : ℕ) (v : Covers (own q c j) (below q c j) (segments_in starts ends (get_or at j 0) n) (10 ^ j)) where
      -- a level with segments
      pub added_level : get_or at j 0 < n → n ≤ room → BuiltAs (below q c) starts ends (set at (j + 1) n) (j + 1) IsStanding
      added_level h k =
          rw add-one (is_standing (laid_more n (omega arith) k)
          (tabled_more (below q c) starts ends (set at (suc j) n) j (stood n) (inr (omega (arith, old n j (omega arith), new n), level))))
        where
          level : Level (below q c (suc j)) (below q c j) (10 ^ j) (level_at starts ends (set at (suc j) n) j)
          level =
              rw (old n j (omega arith), new n)
              (covers_level (power_pos j) (segments_in starts ends (get_or at j 0) n) v (made j) (λ x. below_mod q c (suc j) j x (omega arith))
              (segments_full starts ends (get_or at j 0) n 0 (10 ^ j) h v.rising) (λ x. below_mod q c j j x (omega arith)))

      -- one without
      pub added_none : n ≤ get_or at j 0 → BuiltAs (below q c) starts ends at (j + 1) Empty
      added_none h =
          rw add-one (is_empty (covers_none (power_pos j) (segments_in starts ends (get_or at j 0) n) v (made j) (λ x. below_mod q c (suc j) j x (omega arith))
          (segments_none starts ends (get_or at j 0) n h)))

-- ---- all levels

-- the levels below j stand, and m is the modulus of level j
pub record Building (q : Query) (c : List Relation) (starts ends at : List ℕ) (j m : ℕ) : Type 0 where
  pub few : j ≤ 7
  pub power : m ≡ 10 ^ j
  pub laid : Laid starts ends at j
  pub tabled : Tabled (below q c) starts ends at j

module _ {q : Query} {c : List Relation} {starts ends at : List ℕ} where
  pub building_start : Laid starts ends at 0 → Building q c starts ends at 0 1
  building_start l = record { few = omega arith; power = refl; laid = l; tabled = tabled_none q c starts ends at }

  pub building_more : {j m : ℕ} {b : Built} → BuiltAs (below q c) starts ends at (j + 1) b → j < 7 → m ≡ 10 ^ j → b ≡ IsStanding
      → Building q c starts ends at (j + 1) (m * 10)
  building_more {j} v less p e =
      record {
        few = omega arith;
        power = ap (λ (k : ℕ). k * 10) p ∙ sym (pow-suc 10 j) ∙ ap (λ (k : ℕ). 10 ^ k) (sym (add-one j));
        laid = (v.stands e).0;
        tabled = (v.stands e).1;
      }

  pub built_all : {j m : ℕ} → Building q c starts ends at j m → 7 ≤ j → BuiltAs (below q c) starts ends at 7 IsStanding
  built_all {j} {m} g h =
      let e : j ≡ 7 = omega (arith, g.few) in
      is_standing (subst (λ (k : ℕ). Laid starts ends at k) e g.laid) (subst (λ (k : ℕ). Tabled (below q c) starts ends at k) e g.tabled)

pub built_empty : (q : Query) (c : List Relation) {starts ends at : List ℕ} (j : ℕ) {b : Built} → BuiltAs (below q c) starts ends at (j + 1) b → j < 7 → b ≡ Empty
    → BuiltAs (below q c) starts ends at 7 Empty
built_empty q c j v less e = is_empty (λ x. below_up q c x (j + 1) 7 (omega arith) (v.empty e x))
