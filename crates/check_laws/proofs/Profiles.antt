-- Profiles: that of a relation by its letter, of clauses joined and of bounds for v, and what each part of one says.
use mathlib.Core.Path.{◌≡◌, refl, sym, ap, ap₂, subst, ◌∙◌, fun_ext}
use mathlib.Core.Bool.{Bool, true, false, not}
use mathlib.Core.List.{List, [], ◌∷◌, ◌++◌}
use mathlib.Core.Logic.{◌⊎◌, ⊎_elim, inl, inr}
use Prim.Native.Nat.{ℕ, suc, ◌+◌, ◌*◌, ◌/◌, ◌%◌, ◌^◌, ◌≤◌, ◌<◌, min, max}
use native.Mathlib.Omega.{arith}
use native.Mathlib.Nat.{div-one, div-eq_of_lt, div-lt_iff_lt-mul}
use lib.Bits.{bit_and, and_block}
use lib.Count.{count_trailing_zeros}
use lib.Pow.{pow_mono, pow_pos}
use lib.Dec.{eqb}
use lib.ListN.{get_or}
use native.Mathlib.Decide.{ℕ_discrete}
use borrow.Author.Tests.{ne_eqb, le-leb}
use Rattle.decimal.specs.Choice.{both, either}
use Rattle.decimal.specs.Lists.{all}
use Rattle.number.specs.Limits.{max_exponent, max_places}
use Rattle.pack_rules.specs.Syntax.{Relation}
use Rattle.pack_rules.specs.Stretch.{stretch, start_at, Table, relations_in, clause_at}
use Rattle.pack_rules.proofs.Stretches.{stretch_same}
use Rattle.select.specs.Select.{bit, mask_of}
use Rattle.select.proofs.Masks.{mask_fits}
use Rattle.check_laws.proofs.Seeking.{split, and_false_left, and_false_right}
use Rattle.check_laws.specs.Bounded.{from_to, places_between, bounded}
use Rattle.check_laws.specs.Fast.{test, passes, factor, query_i, query_t, asks_of, of_exponent, settled_e, settled_v, settled_w, settled_f, exponent_of, fractions, part_code}
use Rattle.check_laws.specs.Profile.{values_of, marks, flag_at, ends_in, last_of, packed, profile_of, marked, Settled, Profiled, ProfiledRules}
use Rattle.check_laws.specs.declared.Bounds.{Bounds}
use Rattle.check_laws.proofs.Bounding.{places_test}
use Rattle.check_laws.proofs.Bits.{bit_at, bits_and, bits_first, bits_none}
use Rattle.check_laws.proofs.Placing.{part_shut}
use Rattle.check_laws.proofs.Searched.{all_append}

-- ---- clauses joined

marks_join : (P : ℕ → Relation → Bool) (n : ℕ) (c d : List Relation) → bit_and (marks P n c) (marks P n d) ≡ marks P n (c ++ d)
marks_join P n c d = bits_and (λ (x : ℕ). all (P x) c) (λ (x : ℕ). all (P x) d) 0 n ∙ ap (λ (g : ℕ → Bool). values_of g n) (fun_ext (λ x. sym (all_append (P x) c d)))

marks_lt : (P : ℕ → Relation → Bool) (n : ℕ) (c : List Relation) → marks P n c < 2 ^ n
marks_lt P n c = mask_fits (λ (x : ℕ). all (P x) c) n (marks P n c) refl

module _ (c : List Relation) where
  e_lt : marks settled_e (suc max_exponent) c < 1048576
  e_lt = let h : marks settled_e (suc max_exponent) c < 32768 = marks_lt settled_e (suc max_exponent) c in omega arith

  v_lt : marks settled_v (suc max_places) c < 1024
  v_lt = marks_lt settled_v (suc max_places) c

  w_lt : marks settled_w (suc max_places) c < 1024
  w_lt = marks_lt settled_w (suc max_places) c

  flags_lt : marks flag_at 3 c < 8
  flags_lt = marks_lt flag_at 3 c

  last_lt : (whole : Bool) → marks (last_of whole) 10 c < 1024
  last_lt whole = marks_lt (last_of whole) 10 c

pub profile_join : (c d : List Relation) → bit_and (profile_of c) (profile_of d) ≡ profile_of (c ++ d)
unfolding profile_of
profile_join c d =
    and_block 20 _ _ _ _ (e_lt c) (e_lt d)
    ∙ ap₂ (λ (x y : ℕ). x * 1048576 + y)
    (and_block 10 _ _ _ _ (v_lt c) (v_lt d)
    ∙ ap₂ (λ (x y : ℕ). x * 1024 + y)
    (and_block 10 _ _ _ _ (w_lt c) (w_lt d)
    ∙ ap₂ (λ (x y : ℕ). x * 1024 + y)
    (and_block 3 _ _ _ _ (flags_lt c) (flags_lt d)
    ∙ ap₂ (λ (x y : ℕ). x * 8 + y)
    (and_block 10 _ _ _ _ (last_lt c true) (last_lt d true) ∙ ap₂ (λ (x y : ℕ). x * 1024 + y) (marks_join (last_of false) 10 c d) (marks_join (last_of true) 10 c d))
    (marks_join flag_at 3 c d))
    (marks_join settled_w (suc max_places) c d))
    (marks_join settled_v (suc max_places) c d))
    (marks_join settled_e (suc max_exponent) c d)

-- no relation: everything is free
pub nothing : profile_of [] ≡ packed 32767 1023 1023 7 1023 1023
unfolding profile_of mask_of stretch
nothing = refl

-- ---- a relation, by its letter

alone : (a : Bool) → a ≡ both a true
alone true = refl
alone false = refl

-- every value, and each flag
free_e : 32767 ≡ values_of (λ (x : ℕ). true) (suc max_exponent)
unfolding mask_of stretch
free_e = refl

free_places : 1023 ≡ values_of (λ (x : ℕ). true) (suc max_places)
unfolding mask_of stretch
free_places = refl

only_zero : 1 ≡ values_of (λ (w : ℕ). eqb w 0) (suc max_places)
unfolding mask_of stretch
only_zero = refl

module _ (r : Relation) where
  one_marks : (P : ℕ → Relation → Bool) (Q : ℕ → Bool) (n : ℕ) → ((x : ℕ) → Q x ≡ P x r) → values_of Q n ≡ marks P n (r ∷ [])
  one_marks P Q n h = ap (λ (g : ℕ → Bool). values_of g n) (fun_ext (λ x. h x ∙ alone (P x r)))

  flags : (a b c : Bool) → a ≡ flag_at 0 r → b ≡ flag_at 1 r → c ≡ flag_at 2 r → bit a + 2 * (bit b + 2 * bit c) ≡ marks flag_at 3 (r ∷ [])
  unfolding mask_of stretch
  flags a b c p q s =
      last (bit a) (bit b) (bit c)
      ∙ ap₂ (λ (x : Bool) (y : ℕ). bit x + 2 * y) (p ∙ alone (flag_at 0 r)) (ap₂ (λ (x : Bool) (y : ℕ). bit x + 2 * y) (q ∙ alone (flag_at 1 r)) (ap (λ (x : Bool). bit x + 2 * 0) (s ∙ alone (flag_at 2 r))))
    where
      last : (x y z : ℕ) → x + 2 * (y + 2 * z) ≡ x + 2 * (y + 2 * (z + 2 * 0))
      last x y z = omega arith

  made : (e v w f i j : ℕ) → e ≡ marks settled_e (suc max_exponent) (r ∷ []) → v ≡ marks settled_v (suc max_places) (r ∷ []) → w ≡ marks settled_w (suc max_places) (r ∷ []) → f ≡ marks flag_at 3 (r ∷ [])
      → i ≡ marks (last_of true) 10 (r ∷ []) → j ≡ marks (last_of false) 10 (r ∷ []) → packed e v w f i j ≡ profile_of (r ∷ [])
  unfolding profile_of
  made e v w f i j a b c d g h =
      ap₂ (λ (x y : ℕ). x * 1048576 + y) (ap₂ (λ (x y : ℕ). x * 1024 + y) (ap₂ (λ (x y : ℕ). x * 1024 + y) (ap₂ (λ (x y : ℕ). x * 8 + y) (ap₂ (λ (x y : ℕ). x * 1024 + y) h g) d) c) b) a

  module _ (o : ℕ) (is : r.operand ≡ o) where
    -- a letter that asks nothing of e, of v, of w
    any_e : of_exponent o ≡ false → 32767 ≡ marks settled_e (suc max_exponent) (r ∷ [])
    unfolding settled_e
    any_e h = free_e ∙ one_marks settled_e (λ _. true) (suc max_exponent) (λ x. rw (is, h))

    any_v : eqb o 118 ≡ false → 1023 ≡ marks settled_v (suc max_places) (r ∷ [])
    unfolding settled_v
    any_v h = free_places ∙ one_marks settled_v (λ _. true) (suc max_places) (λ x. rw (is, h))

    any_w : eqb o 110 ≡ false → eqb o 119 ≡ false → 1023 ≡ marks settled_w (suc max_places) (r ∷ [])
    unfolding settled_w
    any_w g h = free_places ∙ one_marks settled_w (λ _. true) (suc max_places) (λ x. rw (is, g, h))

    -- of the last digit of i
    any_last : (whole : Bool) → eqb (factor (query_i whole) o) 0 ≡ true → 1023 ≡ marks (last_of whole) 10 (r ∷ [])
    unfolding last_of
    any_last whole h = free_places ∙ one_marks (last_of whole) (λ _. true) 10 (λ x. rw (is, h))

    its_last : (whole : Bool) (m : ℕ) → eqb (factor (query_i whole) o) 0 ≡ false → m ≡ values_of (λ (d : ℕ). ends_in d r) 10 → m ≡ marks (last_of whole) 10 (r ∷ [])
    unfolding last_of
    its_last whole m h e = e ∙ one_marks (last_of whole) (λ (d : ℕ). ends_in d r) 10 (λ x. rw (is, h))

    flag_n : not (eqb o 110) ≡ flag_at 1 r
    unfolding flag_at
    flag_n = rw is

    flag_f : not (eqb o 102) ≡ flag_at 2 r
    unfolding flag_at
    flag_f = rw is

    -- and nothing of f
    flag_zero : eqb (factor (query_t 0) o) 0 ≡ true → true ≡ flag_at 0 r
    unfolding flag_at passes
    flag_zero h = rw (is, h)

  -- n: where it must be whole, w is 0
  pub by_n : (m : ℕ) → r.operand ≡ 110 → r.negated ≡ false → m ≡ values_of (λ (d : ℕ). ends_in d r) 10 → packed 32767 1023 1 5 m 1023 ≡ profile_of (r ∷ [])
  unfolding of_exponent factor settled_w
  by_n m e n h = made 32767 1023 1 5 m 1023 (any_e 110 e refl) (any_v 110 e refl) (only_zero ∙ one_marks settled_w (λ w. eqb w 0) (suc max_places) (λ x. rw (e, n) (or_not (eqb x 0)))) (flags true false true (flag_zero 110 e refl) (flag_n 110 e) (flag_f 110 e)) (its_last 110 e true m refl h) (any_last 110 e false refl)
    where
      or_not : (a : Bool) → a ≡ either a false
      or_not true = refl
      or_not false = refl

  pub by_not_n : (m : ℕ) → r.operand ≡ 110 → r.negated ≡ true → m ≡ values_of (λ (d : ℕ). ends_in d r) 10 → packed 32767 1023 1023 5 m 1023 ≡ profile_of (r ∷ [])
  unfolding of_exponent factor settled_w
  by_not_n m e n h = made 32767 1023 1023 5 m 1023 (any_e 110 e refl) (any_v 110 e refl) (free_places ∙ one_marks settled_w (λ _. true) (suc max_places) (λ x. rw (e, n) (or_true (eqb x 0)))) (flags true false true (flag_zero 110 e refl) (flag_n 110 e) (flag_f 110 e)) (its_last 110 e true m refl h) (any_last 110 e false refl)
    where
      or_true : (a : Bool) → true ≡ either a true
      or_true true = refl
      or_true false = refl

  pub by_i : (m : ℕ) → r.operand ≡ 105 → m ≡ values_of (λ (d : ℕ). ends_in d r) 10 → packed 32767 1023 1023 7 m m ≡ profile_of (r ∷ [])
  unfolding of_exponent factor
  by_i m e h =
      made 32767 1023 1023 7 m m (any_e 105 e refl) (any_v 105 e refl) (any_w 105 e refl refl) (flags true true true (flag_zero 105 e refl) (flag_n 105 e) (flag_f 105 e))
      (its_last 105 e true m refl h) (its_last 105 e false m refl h)

  zero_asked : (o : ℕ) → r.operand ≡ o → (o ≡ 102) ⊎ (o ≡ 116) → test r 0 ≡ flag_at 0 r
  unfolding flag_at passes factor
  zero_asked o e (inl h) = rw (e ∙ h)
  zero_asked o e (inr h) = rw (e ∙ h)

  pub by_f : (z : Bool) → r.operand ≡ 102 → z ≡ test r 0 → packed 32767 1023 1023 (bit z + 2) 1023 1023 ≡ profile_of (r ∷ [])
  unfolding of_exponent factor
  by_f z e h = made 32767 1023 1023 (bit z + 2) 1023 1023 (any_e 102 e refl) (any_v 102 e refl) (any_w 102 e refl refl) (flags z true false (h ∙ zero_asked 102 e (inl refl)) (flag_n 102 e) (flag_f 102 e)) (any_last 102 e true refl) (any_last 102 e false refl)

  pub by_t : (z : Bool) → r.operand ≡ 116 → z ≡ test r 0 → packed 32767 1023 1023 (bit z + 6) 1023 1023 ≡ profile_of (r ∷ [])
  unfolding of_exponent factor
  by_t z e h = made 32767 1023 1023 (bit z + 6) 1023 1023 (any_e 116 e refl) (any_v 116 e refl) (any_w 116 e refl refl) (flags z true true (h ∙ zero_asked 116 e (inr refl)) (flag_n 116 e) (flag_f 116 e)) (any_last 116 e true refl) (any_last 116 e false refl)

  pub by_v : (m : ℕ) → r.operand ≡ 118 → m ≡ values_of (test r) (suc max_places) → packed 32767 m 1023 7 1023 1023 ≡ profile_of (r ∷ [])
  unfolding of_exponent factor settled_v
  by_v m e h = made 32767 m 1023 7 1023 1023 (any_e 118 e refl) (h ∙ one_marks settled_v (test r) (suc max_places) (λ x. rw e)) (any_w 118 e refl refl) (flags true true true (flag_zero 118 e refl) (flag_n 118 e) (flag_f 118 e)) (any_last 118 e true refl) (any_last 118 e false refl)

  pub by_w : (m : ℕ) → r.operand ≡ 119 → m ≡ values_of (test r) (suc max_places) → packed 32767 1023 m 7 1023 1023 ≡ profile_of (r ∷ [])
  unfolding of_exponent factor settled_w
  by_w m e h = made 32767 1023 m 7 1023 1023 (any_e 119 e refl) (any_v 119 e refl) (h ∙ one_marks settled_w (test r) (suc max_places) (λ x. rw e)) (flags true true true (flag_zero 119 e refl) (flag_n 119 e) (flag_f 119 e)) (any_last 119 e true refl) (any_last 119 e false refl)

  -- any other letter is that of e
  pub by_e : (m : ℕ) → (r.operand ≡ 110 → ⊥) → (r.operand ≡ 105 → ⊥) → (r.operand ≡ 102 → ⊥) → (r.operand ≡ 116 → ⊥) → (r.operand ≡ 118 → ⊥) → (r.operand ≡ 119 → ⊥) → m ≡ values_of (test r) (suc max_exponent)
      → packed m 1023 1023 7 1023 1023 ≡ profile_of (r ∷ [])
  unfolding of_exponent factor settled_e flag_at passes
  by_e m n i f t v w h =
      let en = ne_eqb r.operand 110 n in
      let ei = ne_eqb r.operand 105 i in
      let ef = ne_eqb r.operand 102 f in
      let et = ne_eqb r.operand 116 t in
      let ev = ne_eqb r.operand 118 v in
      let ew = ne_eqb r.operand 119 w in
      made m 1023 1023 7 1023 1023 (h ∙ one_marks settled_e (test r) (suc max_exponent) (λ x. rw (en, ei, ef, et, ev, ew))) (any_v r.operand refl ev) (any_w r.operand refl en ew)
      (flags true true true (rw (en, ei, ef, et)) (rw en) (rw ef))
      (any_last r.operand refl true (rw (en, ei, ef, et))) (any_last r.operand refl false (rw (en, ei, ef, et)))

-- ---- bounds for v

-- one relation more
pub bounded_profile : (b : Bounds) (c : List Relation) (m p r : ℕ) → m ≡ values_of (from_to b) (suc max_places) → p ≡ profile_of c → r ≡ bit_and (packed 32767 m 1023 7 1023 1023) p → r ≡ profile_of (bounded b c)
bounded_profile b c m p r e f g = g ∙ ap₂ bit_and (by_v (places_between b) m refl (e ∙ ap (λ (h : ℕ → Bool). values_of h (suc max_places)) (fun_ext (λ v. sym (places_test b v))))) f ∙ profile_join (places_between b ∷ []) c

-- bounds that every v has
pub unbounded_profile : (b : Bounds) (c : List Relation) (p : ℕ) → b.least.0 ≡ 0 → max_places ≤ b.most.0 → p ≡ profile_of c → p ≡ profile_of (bounded b c)
unbounded_profile b c p lo hi e =
    e ∙ sym (profile_join [] c) ∙ ap (λ (x : ℕ). bit_and x (profile_of c)) (nothing ∙ by_v (places_between b) 1023 refl every) ∙ profile_join (places_between b ∷ []) c
  where
    every : 1023 ≡ values_of (test (places_between b)) (suc max_places)
    every =
        free_places
        ∙ ap mask_of (stretch_same {g = λ (x : ℕ). true} {h = test (places_between b)} 0 (suc max_places) (λ k h. sym (places_test b k ∙ rw (le-leb b.least.0 k (omega arith), le-leb k b.most.0 (omega arith)))))

-- ---- the parts of a profile

pub both_all : (v w : ℕ) (c : List Relation) → all (settled_f v w) c ≡ both (all (settled_v v) c) (all (settled_w w) c)
both_all v w [] = refl
both_all v w (r ∷ rs) = ap (both (settled_f v w r)) (both_all v w rs) ∙ swap (settled_v v r) (settled_w w r) (all (settled_v v) rs) (all (settled_w w) rs)
  where
    swap : (a b c d : Bool) → both (both a b) (both c d) ≡ both (both a c) (both b d)
    swap true true c d = refl
    swap true false true d = refl
    swap true false false d = refl
    swap false b c d = refl

module _ (c : List Relation) (p : ℕ) (is : p ≡ profile_of c) where
  -- the least e
  part_e : p % 1048576 ≡ marks settled_e (suc max_exponent) c
  unfolding profile_of
  part_e = let h = e_lt c in omega (arith, is)

  pub profile_exponent : (m r : ℕ) → m ≡ p % 1048576 → (m ≡ 0 → ⊥) → r ≡ count_trailing_zeros 64 m → r ≡ exponent_of c
  unfolding exponent_of
  profile_exponent m r e n h =
      h ∙ ap (count_trailing_zeros 64) (e ∙ part_e)
      ∙ (let z : (t : ℕ) → t ≡ 0 + t = λ t. omega arith in z (count_trailing_zeros 64 (marks settled_e (suc max_exponent) c)))
      ∙ bits_first (λ (x : ℕ). all (settled_e x) c) 0 (suc max_exponent) 64 (omega arith)
      (let k : (marks settled_e (suc max_exponent) c ≡ 0 → ⊥) = λ z. n (e ∙ part_e ∙ z) in pos (marks settled_e (suc max_exponent) c) k)
    where
      pos : (n : ℕ) → (n ≡ 0 → ⊥) → 0 < n
      pos n h = omega arith

  pub profile_no_exponent : (m r : ℕ) → m ≡ p % 1048576 → m ≡ 0 → r ≡ suc max_exponent → r ≡ exponent_of c
  unfolding exponent_of
  profile_no_exponent m r e n h = h ∙ bits_none (λ (x : ℕ). all (settled_e x) c) 0 (suc max_exponent) (sym part_e ∙ sym e ∙ n)

  -- v and w
  part_v : p / 1048576 % 1024 ≡ marks settled_v (suc max_places) c
  unfolding profile_of
  part_v = let h = e_lt c in let k = v_lt c in omega (arith, is)

  part_w : p / 1073741824 % 1024 ≡ marks settled_w (suc max_places) c
  unfolding profile_of
  part_w = let h = e_lt c in let k = v_lt c in let l = w_lt c in omega (arith, is)

  told : (P : ℕ → Relation → Bool) (m k : ℕ) → m ≡ marks P (suc max_places) c → k ≤ max_places → all (P k) c ≡ marked m k
  told P m k e h = sym (ap (λ (x : ℕ). eqb (x / 2 ^ k % 2) 1) e ∙ ap (λ (x : ℕ). eqb x 1) (bit_at (λ (x : ℕ). all (P x) c) 0 (suc max_places) k (omega arith)) ∙ go (all (P (0 + k)) c) ∙ ap (λ (x : ℕ). all (P x) c) (let z : 0 + k ≡ k = omega arith in z))
    where
      go : (b : Bool) → eqb (bit b) 1 ≡ b
      go true = refl
      go false = refl

  pub profile_settled : (vs ws : ℕ) → vs ≡ p / 1048576 % 1024 → ws ≡ p / 1073741824 % 1024 → Settled c vs ws
  profile_settled vs ws e f = record { says = λ v w hv hw. both_all v w c ∙ ap₂ both (told settled_v vs v (e ∙ part_v) hv) (told settled_w ws w (f ∙ part_w) hw) }

  -- the flags
  part_flags : p / 1099511627776 % 8 ≡ marks flag_at 3 c
  unfolding profile_of
  part_flags = let h = e_lt c in let k = v_lt c in let l = w_lt c in let m = flags_lt c in omega (arith, is)

  flag_is : (k : ℕ) (b : Bool) → k < 3 → b ≡ eqb (p / 1099511627776 % 8 / 2 ^ k % 2) 1 → b ≡ all (flag_at k) c
  flag_is k b h e =
      e ∙ ap (λ (x : ℕ). eqb (x / 2 ^ k % 2) 1) part_flags ∙ ap (λ (x : ℕ). eqb x 1) (bit_at (λ (x : ℕ). all (flag_at x) c) 0 3 k h) ∙ go (all (flag_at (0 + k)) c) ∙ ap (λ (x : ℕ). all (flag_at x) c) (let z : 0 + k ≡ k = omega arith in z)
    where
      go : (b : Bool) → eqb (bit b) 1 ≡ b
      go true = refl
      go false = refl

  pub profile_zero : (b : Bool) → b ≡ eqb (p / 1099511627776 % 2) 1 → b ≡ all (λ (r : Relation). passes (query_t 0) r 0) c
  unfolding flag_at
  profile_zero b e = flag_is 0 b (omega arith) (e ∙ ap (λ (x : ℕ). eqb x 1) (let z : p / 1099511627776 % 2 ≡ p / 1099511627776 % 8 / 2 ^ 0 % 2 = (let y : p / 1099511627776 % 2 ≡ p / 1099511627776 % 8 % 2 = omega arith in y) ∙ ap (λ (x : ℕ). x % 2) (sym (div-one (p / 1099511627776 % 8))) in z))

  none_asks : (o : ℕ) (c : List Relation) → all (λ (r : Relation). not (eqb r.operand o)) c ≡ not (asks_of o c)
  none_asks o [] = refl
  none_asks o (r ∷ rs) = ap (both (not (eqb r.operand o))) (none_asks o rs) ∙ go (eqb r.operand o) (asks_of o rs)
    where
      go : (a b : Bool) → both (not a) (not b) ≡ not (either a b)
      go true b = refl
      go false b = refl

  pub profile_n : (b : Bool) → b ≡ eqb (p / 2199023255552 % 2) 1 → b ≡ not (asks_of 110 c)
  unfolding flag_at
  profile_n b e = flag_is 1 b (omega arith) (e ∙ ap (λ (x : ℕ). eqb x 1) (let z : p / 2199023255552 % 2 ≡ p / 1099511627776 % 8 / 2 % 2 = omega arith in z)) ∙ none_asks 110 c

  pub profile_f : (b : Bool) → b ≡ eqb (p / 4398046511104 % 2) 1 → b ≡ not (asks_of 102 c)
  unfolding flag_at
  profile_f b e = flag_is 2 b (omega arith) (e ∙ ap (λ (x : ℕ). eqb x 1) (let z : p / 4398046511104 % 2 ≡ p / 1099511627776 % 8 / 4 % 2 = omega arith in z)) ∙ none_asks 102 c

  -- the last digit
  pub part_whole : p / 8796093022208 % 1024 ≡ marks (last_of true) 10 c
  unfolding profile_of
  part_whole = let h = e_lt c in let k = v_lt c in let l = w_lt c in let m = flags_lt c in let n = last_lt c true in omega (arith, is)

  pub part_part : p / 9007199254740992 ≡ marks (last_of false) 10 c
  unfolding profile_of
  part_part = let h = e_lt c in let k = v_lt c in let l = w_lt c in let m = flags_lt c in let n = last_lt c true in omega (arith, is)

-- ---- where no w other than 0 is left with a v that is no less, f is 0

module _ (c : List Relation) (vs ws : ℕ) (s : Settled c vs ws) where
  -- no w is left; or the least that is, and no v from it on
  pub profile_shut : ((w : ℕ) → 1 ≤ w → w ≤ max_places → marked ws w ≡ false) → fractions ≡ part_code max_places c
  profile_shut h = part_shut c (λ v w p q _. s.says v w p.1 q.1 ∙ and_false_right (marked vs v) (h w q.0 q.1))

  pub profile_below : (u : ℕ) → ((w : ℕ) → 1 ≤ w → w < u → marked ws w ≡ false) → vs / 2 ^ u ≡ 0 → fractions ≡ part_code max_places c
  profile_below u h z =
      part_shut c
      (λ v w p q l. s.says v w p.1 q.1
      ∙ ⊎_elim (λ k. and_false_right (marked vs v) (h w q.0 k)) (λ k. and_false_left (marked ws w) (bare v (omega arith))) (split w u))
    where
      bare : (v : ℕ) → u ≤ v → marked vs v ≡ false
      bare v k =
          let a : vs < 1 * 2 ^ u = (div-lt_iff_lt-mul (pow_pos u)).0 (let y : vs / 2 ^ u < 1 = omega arith in y) in
          let g : 2 ^ u ≤ 2 ^ v = pow_mono {i = u} {j = v} k in
          let y : vs / 2 ^ v ≡ 0 = div-eq_of_lt (omega arith) in
          rw y

-- one test and then the other
module _ (vs ws v w : ℕ) (hv : v ≤ max_places) (hw : w ≤ max_places) (c : List Relation) (s : Settled c vs ws) where
  pub settled_no : marked vs v ≡ false → false ≡ all (settled_f v w) c
  settled_no e = sym (s.says v w hv hw ∙ and_false_left (marked ws w) e)

  pub settled_yes : marked vs v ≡ true → marked ws w ≡ all (settled_f v w) c
  settled_yes e = sym (s.says v w hv hw ∙ ap (λ (x : Bool). both x (marked ws w)) e)

-- ---- the profiles of a pack's clauses

module _ (T : Table) (R : List ℕ) where
  -- of a clause, as a stretch; and of two
  pub profile_clause : (a b j p : ℕ) → a ≡ start_at R j → b ≡ min (get_or R j 0) 320 → p ≡ profile_of (relations_in T a b) → p ≡ profile_of (clause_at T R j)
  profile_clause a b j p ea eb e = e ∙ ap₂ (λ (x y : ℕ). profile_of (relations_in T x y)) ea eb

  pub profile_pair : (a b c d j k p q r : ℕ) → a ≡ start_at R j → b ≡ min (get_or R j 0) 320 → c ≡ start_at R k → d ≡ min (get_or R k 0) 320 → p ≡ profile_of (clause_at T R j) → q ≡ profile_of (clause_at T R k) → r ≡ bit_and p q
      → r ≡ profile_of (relations_in T a b ++ relations_in T c d)
  profile_pair a b c d j k p q r ea eb ec ed ep eq e =
      e ∙ ap₂ bit_and ep eq ∙ profile_join (clause_at T R j) (clause_at T R k)
      ∙ sym (ap profile_of (ap₂ ◌++◌ (ap₂ (relations_in T) ea eb) (ap₂ (relations_in T) ec ed)))

  pub profiled_none : (profiles : List ℕ) → Profiled T R profiles 0
  profiled_none profiles j h = absurd (omega arith)

  pub profiled_more : (before after : List ℕ) (j p : ℕ) → Profiled T R before j → p ≡ profile_of (clause_at T R j) → get_or after j 0 ≡ p → ((k : ℕ) → (k ≡ j → ⊥) → get_or after k 0 ≡ get_or before k 0) → Profiled T R after (j + 1)
  profiled_more before after j p f e here rest k h =
      elim (ℕ_discrete k j) [
        | yes g ↦ subst (λ (x : ℕ). get_or after x 0 ≡ profile_of (clause_at T R x)) (sym g) (here ∙ e)
        | no n ↦ rest k n ∙ f k (omega arith)
      ]

  pub profiled_rules : (clauses : List ℕ) (n end : ℕ) (profiles : List ℕ) → Profiled T R profiles end → ((p : ℕ) → p < n → min (get_or clauses p 0) 40 ≤ end) → ProfiledRules T R clauses n profiles
  profiled_rules clauses n end profiles f l p h j k = f j (omega (arith, l p h))

-- the most clauses that a rule reaches
pub reaches_none : (clauses : List ℕ) (p : ℕ) → p < 0 → min (get_or clauses p 0) 40 ≤ 0
reaches_none clauses p h = absurd (omega arith)

pub reaches_more : (clauses : List ℕ) (n end e m : ℕ) → ((p : ℕ) → p < n → min (get_or clauses p 0) 40 ≤ end) → e ≡ min (get_or clauses n 0) 40 → m ≡ max end e → (p : ℕ) → p < n + 1 → min (get_or clauses p 0) 40 ≤ m
reaches_more clauses n end e m f g h p k =
    ⊎_elim (λ a. omega (arith, f p a)) (λ a. subst (λ (x : ℕ). min (get_or clauses x 0) 40 ≤ m) (let z : n ≡ p = omega arith in z) (omega arith)) (split p n)
