-- Numbers tried in turn: stretches of ranks behind one another, at each of the four operands.
use mathlib.Core.Path.{◌≡◌, refl, sym, ap, subst, ◌∙◌}
use mathlib.Core.Bool.{Bool, true, false}
use mathlib.Core.List.{List}
use mathlib.Core.Logic.{⊎_elim}
use Prim.Native.Nat.{ℕ, ◌+◌, ◌-◌, ◌/◌, ◌%◌, ◌^◌, ◌≤◌, ◌<◌}
use native.Mathlib.Omega.{arith}
use borrow.Author.Tests.{lt-ltb, le-ltb, le-leb, lt-leb}
use lib.Dec.{leb, ltb}
use Rattle.decimal.specs.Choice.{both}
use Rattle.decimal.proofs.Values.{power_mono}
use Rattle.answer.specs.declared.Witness.{Witness}
use Rattle.number.specs.Limits.{max_exponent, max_digits, max_places}
use Rattle.number.specs.Admitted.{number_from}
use Rattle.number.specs.declared.Number.{Number}
use Rattle.pack_rules.specs.Stretch.{Table}
use Rattle.meaning.specs.Places.{met_at}
use Rattle.check_laws.specs.Seek.{Least}
use Rattle.check_laws.proofs.Seeking.{split, seek_least, least_one, least_none, least_after, least_widen, least_start, and_true, and_false_left, and_false_right}
use Rattle.check_laws.specs.Check.{lowest, admits, number_at, ranked, ranks, found, least_rank, clash_of}
use Rattle.check_laws.specs.Read.{bare_rule}
use Rattle.check_laws.specs.Spots.{spot_rank, Proper}
use Rattle.check_laws.proofs.Spotting.{low_le}
use Rattle.check_laws.proofs.Turns.{none_ge, ranked_is}
use Rattle.check_plain.specs.Search.{meets_both, rank_at, NoneIn, Tried}

-- the number with these operands
abbrev pub spot : ℕ → ℕ → ℕ → ℕ → Witness
spot e v i f = record { e = e; v = record { 0 = v }; i = i; f = record { 0 = f } }

spot_rank_law : (e v i f : ℕ) → spot_rank (spot e v i f) ≡ rank_at e v i f
unfolding spot_rank rank_at
spot_rank_law e v i f = refl

pub spot_proper : (e v i f : ℕ) → e ≤ max_exponent → v ≤ max_places → i < 10 ^ max_digits → f < 10 ^ max_places → Proper (spot e v i f)
unfolding spot_rank
spot_proper e v i f he hv hi hf = record { exponent = omega arith; places = omega arith; whole = hi; fraction = hf; ranked = omega arith }

-- ---- stretches of any ranks

module _ (P : Number → Bool) where
  pub none_start : (k : ℕ) → NoneIn P k k
  none_start k j a b = absurd (omega arith)

  none_upto : {lo mid hi : ℕ} → hi ≤ mid → NoneIn P lo mid → NoneIn P lo hi
  none_upto {lo} {mid} {hi} h n j a b = n j a (omega arith)

  none_more : {lo mid hi : ℕ} (s : Witness) → NoneIn P lo mid → Tried P mid hi s → max_exponent < s.e → NoneIn P lo hi
  none_more {lo} {mid} {hi} s n t h j a b = ⊎_elim (λ k. n j a k) (λ k. t.none h j k b) (split j mid)

  tried_found : {lo mid end hi : ℕ} (s : Witness) → lo ≤ mid → end ≤ hi → NoneIn P lo mid → Tried P mid end s → s.e ≤ max_exponent → Tried P lo hi s
  tried_found {lo} {mid} {end} {hi} s a b n t h =
      let l = (t.hit h).0 in
      let k = (t.hit h).1 in
      record {
        proper = t.proper;
        hit = λ _. (least_after a n (least_widen b k l), omega arith);
        none = λ g. absurd (omega arith);
      }

  tried_none : {lo hi : ℕ} (s : Witness) → Proper s → max_exponent < s.e → NoneIn P lo hi → Tried P lo hi s
  tried_none {lo} {hi} s p h n = record { proper = p; hit = λ g. absurd (omega arith); none = λ _. n }

  -- all ranks
  tried_least : (s : Witness) → Tried P 0 ranks s → spot_rank s ≡ least_rank P
  unfolding least_rank
  tried_least s t =
      ⊎_elim (λ h. past h)
      (λ h. least_one (t.hit h).0 (seek_least (found P) ranks 0))
      (split max_exponent s.e)
    where
      past : max_exponent < s.e → spot_rank s ≡ least_rank P
      past h =
          let e : ranks ≡ spot_rank s = omega (arith, none_ge s h, t.proper.ranked) in
          sym e ∙ least_one (least_none (found P) 0 ranks (omega arith) (t.none h)) (seek_least (found P) ranks 0)

  -- ---- one number

  found_is : (e v i f : ℕ) → Proper (spot e v i f) → found P (rank_at e v i f) ≡ both (admits (spot e v i f)) (P (number_from false e v i f))
  unfolding found
  found_is e v i f p =
      ap (λ (k : ℕ). both (admits (ranked k)) (P (number_at (ranked k)))) (sym (spot_rank_law e v i f))
      ∙ ap (λ (x : Witness). both (admits x) (P (number_at x))) (ranked_is (spot e v i f) p)

  -- an f that v has no digits for
  wide_none : (e v i f : ℕ) → Proper (spot e v i f) → 10 ^ v ≤ f → found P (rank_at e v i f) ≡ false
  unfolding admits
  wide_none e v i f p h =
      found_is e v i f p
      ∙ and_false_left (P (number_from false e v i f)) (and_false_right (leb e max_exponent) (and_false_right (leb v max_places) (and_false_right (leb (lowest e) i) (and_false_right (ltb i (10 ^ max_digits)) (le-ltb f (10 ^ v) h)))))

  -- an i that is too low for e
  low_none : (e v i f : ℕ) → Proper (spot e v i f) → i < lowest e → found P (rank_at e v i f) ≡ false
  unfolding admits
  low_none e v i f p h = found_is e v i f p ∙ and_false_left (P (number_from false e v i f)) (and_false_right (leb e max_exponent) (and_false_right (leb v max_places) (and_false_left (both (ltb i (10 ^ max_digits)) (ltb f (10 ^ v))) (lt-leb (lowest e) i h))))

-- ---- the f of an e, a v and an i

module _ (P : Number → Bool) (e v i : ℕ) (he : e ≤ max_exponent) (hv : v ≤ max_places) (hl : lowest e ≤ i) (hi : i < 10 ^ max_digits) where
  narrow : (f : ℕ) → f < 10 ^ v → f < 10 ^ max_places
  narrow f h = let g : 10 ^ v ≤ 10 ^ max_places = power_mono hv in omega arith

  proper : (f : ℕ) → f < 10 ^ v → Proper (spot e v i f)
  proper f h = spot_proper e v i f he hv hi (narrow f h)

  found_at : (f : ℕ) → f < 10 ^ v → found P (rank_at e v i f) ≡ P (number_from false e v i f)
  unfolding admits
  found_at f h =
      found_is P e v i f (proper f h)
      ∙ ap (λ (b : Bool). both b (P (number_from false e v i f)))
      (and_true (le-leb e max_exponent he) (and_true (le-leb v max_places hv) (and_true (le-leb (lowest e) i hl) (and_true (lt-ltb i (10 ^ max_digits) hi) (lt-ltb f (10 ^ v) h)))))

  -- the test of a number, as the code works it out
  tested_at : (f : ℕ) (x : Number) (b : Bool) → f < 10 ^ v → x ≡ number_from false e v i f → b ≡ P x → b ≡ found P (rank_at e v i f)
  tested_at f x b h g k = k ∙ ap P g ∙ sym (found_at f h)

  pub fractions_more : (f : ℕ) (x : Number) (b : Bool) → f < 10 ^ v → x ≡ number_from false e v i f → b ≡ P x → b ≡ false
      → NoneIn P (rank_at e v i 0) (rank_at e v i f) → NoneIn P (rank_at e v i 0) (rank_at e v i (f + 1))
  unfolding rank_at
  fractions_more f x b h g k z n j l m =
      ⊎_elim (λ q. n j l q) (λ q. subst (λ (y : ℕ). found P y ≡ false) (same q) (sym (tested_at f x b h g k) ∙ z)) (split j (rank_at e v i f))
    where
      same : rank_at e v i f ≤ j → rank_at e v i f ≡ j
      same q = omega arith

  pub fractions_found : (f : ℕ) (x : Number) (b : Bool) → f < 10 ^ v → x ≡ number_from false e v i f → b ≡ P x → b ≡ true
      → NoneIn P (rank_at e v i 0) (rank_at e v i f) → Tried P (rank_at e v i 0) (rank_at e v (i + 1) 0) (spot e v i f)
  unfolding rank_at
  fractions_found f x b h g k z n =
      record {
        proper = proper f h;
        hit = λ _. subst (λ (y : ℕ). Least (found P) (rank_at e v i 0) (rank_at e v (i + 1) 0) y × (y < rank_at e v (i + 1) 0)) (sym (spot_rank_law e v i f)) (least, below);
        none = λ q. absurd (omega arith);
      }
    where
      below : rank_at e v i f < rank_at e v (i + 1) 0
      below = let w = narrow f h in omega arith

      above : rank_at e v i 0 ≤ rank_at e v i f
      above = omega arith

      least : Least (found P) (rank_at e v i 0) (rank_at e v (i + 1) 0) (rank_at e v i f)
      least = least_after above n (least_start (found P) (rank_at e v i f) (rank_at e v (i + 1) 0) (omega (arith, below)) (sym (tested_at f x b h g k) ∙ z))

  pub fractions_none : (f : ℕ) (s : Witness) → 10 ^ v ≤ f → Proper s → max_exponent < s.e
      → NoneIn P (rank_at e v i 0) (rank_at e v i f) → Tried P (rank_at e v i 0) (rank_at e v (i + 1) 0) s
  unfolding rank_at
  fractions_none f s h p g n =
      tried_none P s p g (λ j a b. ⊎_elim (λ q. n j a q)
      (λ q. subst (λ (y : ℕ). found P y ≡ false) (same j a) (wide_none P e v i (j - rank_at e v i 0) (spot_proper e v i _ he hv hi (room j b)) (omega (arith, wide j q))))
      (split j (rank_at e v i f)))
    where
      same : (j : ℕ) → rank_at e v i 0 ≤ j → rank_at e v i (j - rank_at e v i 0) ≡ j
      same j a = omega arith

      room : (j : ℕ) → j < rank_at e v (i + 1) 0 → j - rank_at e v i 0 < 10 ^ max_places
      room j b = omega arith

      wide : (j : ℕ) → rank_at e v i f ≤ j → f ≤ j - rank_at e v i 0
      wide j q = omega arith

-- ---- the i of an e and a v

module _ (P : Number → Bool) (e v : ℕ) where
  pub integers_start : (i : ℕ) → e ≤ max_exponent → v ≤ max_places → i ≡ lowest e → NoneIn P (rank_at e v 0 0) (rank_at e v i 0)
  unfolding rank_at
  integers_start i he hv g j a b =
      let top : i ≤ 10 ^ max_digits = low_le e i he g in
      let d = j - rank_at e v 0 0 in
      let same : rank_at e v (d / 10 ^ max_places) (d % 10 ^ max_places) ≡ j = omega arith in
      let low : d / 10 ^ max_places < i = omega arith in
      let end : d % 10 ^ max_places < 10 ^ max_places = omega arith in
      subst (λ (y : ℕ). found P y ≡ false) same
      (low_none P e v (d / 10 ^ max_places) (d % 10 ^ max_places) (spot_proper e v (d / 10 ^ max_places) (d % 10 ^ max_places) he hv (omega arith) end) (subst (λ (y : ℕ). d / 10 ^ max_places < y) g low))

  pub integers_more : (i : ℕ) (s : Witness) → NoneIn P (rank_at e v 0 0) (rank_at e v i 0) → Tried P (rank_at e v i 0) (rank_at e v (i + 1) 0) s → max_exponent < s.e
      → NoneIn P (rank_at e v 0 0) (rank_at e v (i + 1) 0)
  integers_more i s = none_more P s

  pub integers_found : (i : ℕ) (s : Witness) → i < 10 ^ max_digits → NoneIn P (rank_at e v 0 0) (rank_at e v i 0) → Tried P (rank_at e v i 0) (rank_at e v (i + 1) 0) s → s.e ≤ max_exponent
      → Tried P (rank_at e v 0 0) (rank_at e (v + 1) 0 0) s
  unfolding rank_at
  integers_found i s h = tried_found P s (omega arith) (omega arith)

  pub integers_none : (i : ℕ) (s : Witness) → 10 ^ max_digits ≤ i → NoneIn P (rank_at e v 0 0) (rank_at e v i 0) → Proper s → max_exponent < s.e
      → Tried P (rank_at e v 0 0) (rank_at e (v + 1) 0 0) s
  unfolding rank_at
  integers_none i s h n p g = tried_none P s p g (none_upto P (omega arith) n)

-- ---- the v of an e

module _ (P : Number → Bool) (e : ℕ) where
  pub places_more : (v : ℕ) (s : Witness) → NoneIn P (rank_at e 0 0 0) (rank_at e v 0 0) → Tried P (rank_at e v 0 0) (rank_at e (v + 1) 0 0) s → max_exponent < s.e
      → NoneIn P (rank_at e 0 0 0) (rank_at e (v + 1) 0 0)
  places_more v s = none_more P s

  pub places_found : (v : ℕ) (s : Witness) → v ≤ max_places → NoneIn P (rank_at e 0 0 0) (rank_at e v 0 0) → Tried P (rank_at e v 0 0) (rank_at e (v + 1) 0 0) s → s.e ≤ max_exponent
      → Tried P (rank_at e 0 0 0) (rank_at (e + 1) 0 0 0) s
  unfolding rank_at
  places_found v s h = tried_found P s (omega arith) (omega arith)

  pub places_none : (v : ℕ) (s : Witness) → max_places < v → NoneIn P (rank_at e 0 0 0) (rank_at e v 0 0) → Proper s → max_exponent < s.e
      → Tried P (rank_at e 0 0 0) (rank_at (e + 1) 0 0 0) s
  unfolding rank_at
  places_none v s h n p g = tried_none P s p g (none_upto P (omega arith) n)

-- ---- the e: all numbers

module _ (T : Table) (R C : List ℕ) (p q : ℕ) where
  -- one rule asked after the other
  pub first_fails : (x : Number) (b : Bool) → b ≡ met_at T R C x p → b ≡ false → false ≡ meets_both T R C p q x
  unfolding meets_both
  first_fails x b e z = sym (and_false_left _ (sym e ∙ z))

  pub second_says : (x : Number) (b c : Bool) → b ≡ met_at T R C x p → b ≡ true → c ≡ met_at T R C x q → c ≡ meets_both T R C p q x
  unfolding meets_both
  second_says x b c e z g = g ∙ sym (ap (λ (a : Bool). both a (met_at T R C x q)) (sym e ∙ z))

  -- the least of all is the least that meets both rules
  is_clash : (s : Witness) → Tried (meets_both T R C p q) 0 ranks s → (spot_rank s ≡ clash_of (bare_rule T R C p) (bare_rule T R C q)) × Proper s
  unfolding meets_both
  is_clash s t = (tried_least (meets_both T R C p q) s t, t.proper)

  pub exponents_start : NoneIn (meets_both T R C p q) 0 (rank_at 0 0 0 0)
  unfolding rank_at
  exponents_start = none_start (meets_both T R C p q) 0

  pub exponents_more : (e : ℕ) (s : Witness) → NoneIn (meets_both T R C p q) 0 (rank_at e 0 0 0) → Tried (meets_both T R C p q) (rank_at e 0 0 0) (rank_at (e + 1) 0 0 0) s → max_exponent < s.e
      → NoneIn (meets_both T R C p q) 0 (rank_at (e + 1) 0 0 0)
  exponents_more e s = none_more (meets_both T R C p q) s

  pub exponents_found : (e : ℕ) (s : Witness) → e ≤ max_exponent → NoneIn (meets_both T R C p q) 0 (rank_at e 0 0 0)
      → Tried (meets_both T R C p q) (rank_at e 0 0 0) (rank_at (e + 1) 0 0 0) s → s.e ≤ max_exponent → (spot_rank s ≡ clash_of (bare_rule T R C p) (bare_rule T R C q)) × Proper s
  unfolding rank_at
  exponents_found e s h n t g = is_clash s (tried_found (meets_both T R C p q) s (omega arith) (omega arith) n t g)

  pub exponents_none : (e : ℕ) (s : Witness) → max_exponent < e → NoneIn (meets_both T R C p q) 0 (rank_at e 0 0 0) → Proper s → max_exponent < s.e
      → (spot_rank s ≡ clash_of (bare_rule T R C p) (bare_rule T R C q)) × Proper s
  unfolding rank_at
  exponents_none e s h n k g = is_clash s (tried_none (meets_both T R C p q) s k g (none_upto (meets_both T R C p q) (omega arith) n))
