-- What is read of a pattern keeps its bounds: step, digits and group sizes.
use Rattle.std.specs.Prelude.{Ok}
use mathlib.Core.Path.{◌≡◌, refl, sym, subst, ◌∙◌}
use mathlib.Core.Bool.{false}
use mathlib.Core.List.{List, [], ◌∷◌, ◌++◌, map}
use mathlib.Core.Logic.{inl, inr}
use Prim.Native.Nat.{ℕ, zero, suc, ◌+◌, ◌-◌, ◌≤◌, ◌<◌}
use native.Mathlib.Omega.{arith}
use borrow.Author.Tests.{eqb-true, eqb-false, ltb-true, ltb-false}
use lib.Dec.{eqb, ltb}
use lib.ListN.{length, get_or, take}
use lib.Seq.{get_or-take, length-take-le}
use Rattle.decimal.specs.Digits.{value}
use Rattle.decimal.proofs.Choices.{choice, tested}
use Rattle.pattern_token.specs.Items.{permille as permille_mark}
use Rattle.pattern_number.specs.Shape.{between, count, digits, last, primary_of, front, secondary_of}
use Rattle.pattern_reader.specs.Limits.{max_whole, max_fraction, max_step}
use Rattle.pattern_reader.specs.declared.Negative.{Negative}
use Rattle.pattern_reader.specs.declared.Negative.TheVariants.{MinusSymbol}
use Rattle.pattern_reader.specs.declared.Pattern.{Pattern}
use Rattle.pattern_reader.specs.Reading.{read_pattern}
use Rattle.pattern_grammar.specs.NumberPart.{drop_commas, IsWhole, IsPart}
use Rattle.pattern_grammar.specs.Grammar.{IsSub, IsPattern, one, two}
use Rattle.pattern_grammar.specs.Meaning.{as_zero, step_in, percent_mark, marks_in, factor_in, ManyPlaces, StepOver, asked, own_in, pattern_in}
use Rattle.pattern_grammar.specs.Bounds.{Bounds}
use Rattle.pattern_grammar.specs.Verdict.{Past35}
use Rattle.pattern_grammar.proofs.Numbers.{between_is, places_left}
use Rattle.pattern_grammar.proofs.Meanings.{no_more}
use Rattle.pattern_grammar.proofs.Texts.{read_plain, read_asks}

-- ---- counts

-- no byte is both a digit and a comma
digits_commas : (w : List ℕ) → digits w + count 44 44 w ≤ length w
digits_commas [] = omega arith
digits_commas (b ∷ w) =
    tested (between 44 44 b)
    (λ k.
    let c = between_is 44 b k in
    let d : between 48 57 b ≡ false = rw c in
    rw (k, d) (omega (arith, digits_commas w)))
    (λ k. tested (between 48 57 b) (λ d. rw (k, d) (omega (arith, digits_commas w))) (λ d. rw (k, d) (omega (arith, digits_commas w))))

digits_length : (w : List ℕ) → digits w ≤ length w
digits_length w = omega (arith, digits_commas w)

-- no comma stands behind the last one
commas_last : (w : List ℕ) → (count 44 44 w ≤ last 44 w) × (last 44 w ≤ length w)
commas_last [] = (omega arith, omega arith)
commas_last (b ∷ w) =
    let ih = commas_last w in
    tested (ltb 0 (last 44 w)) (λ k. tested (between 44 44 b) (λ c. rw (k, c) (omega (arith, ih.0), omega (arith, ih.1))) (λ c. rw (k, c) (omega (arith, ih.0), omega (arith, ih.1))))
    (λ k.
    let z = ltb-false 0 (last 44 w) k in
    tested (eqb b 44)
    (λ e.
    tested (between 44 44 b) (λ c. rw (k, e, c) (omega (arith, ih.0, z), omega arith)) (λ c. rw (k, e, c) (omega (arith, ih.0, z), omega arith)))
    (λ e.
    tested (between 44 44 b)
    (λ c. absurd (eqb-false b 44 e (between_is 44 b c)))
    (λ c. rw (k, e, c) (omega (arith, ih.0, z), omega arith))))

-- the last comma is one
last_comma : (w : List ℕ) (i : ℕ) → last 44 w ≡ suc i → get_or w i 0 ≡ 44
last_comma [] i e = absurd (no e)
  where
    no : 0 ≡ suc i → ⊥
    no g = omega arith
last_comma (b ∷ w) zero e =
    tested (ltb 0 (last 44 w))
    (λ k. let f : suc (last 44 w) ≡ suc zero = rw k at e in absurd (no f (ltb-true 0 (last 44 w) k)))
    (λ k. tested (eqb b 44) (λ c. eqb-true b 44 c) (λ c. let f : 0 ≡ suc zero = rw (k, c) at e in absurd (zero_one f)))
  where
    no : {x : ℕ} → suc x ≡ suc zero → 0 < x → ⊥
    no {x} f g = omega arith

    zero_one : 0 ≡ suc zero → ⊥
    zero_one f = omega arith
last_comma (b ∷ w) (suc i) e =
    tested (ltb 0 (last 44 w))
    (λ k. let f : suc (last 44 w) ≡ suc (suc i) = rw k at e in last_comma w i (omega arith))
    (λ k.
    tested (eqb b 44)
    (λ c. let f : 1 ≡ suc (suc i) = rw (k, c) at e in absurd (no f))
    (λ c. let f : 0 ≡ suc (suc i) = rw (k, c) at e in absurd (never f)))
  where
    no : 1 ≡ suc (suc i) → ⊥
    no f = omega arith

    never : 0 ≡ suc (suc i) → ⊥
    never f = omega arith

-- the places of a part of a text are no more than those of the text
places_take : (k : ℕ) (w : List ℕ) → length (take k w) + count 44 44 w ≤ length w + count 44 44 (take k w)
places_take zero w = omega (arith, (commas_last w).0, (commas_last w).1)
places_take (suc k) [] = omega arith
places_take (suc k) (b ∷ w) =
    tested (between 44 44 b) (λ c. rw c (omega (arith, places_take k w))) (λ c. rw c (omega (arith, places_take k w)))

-- ---- groups

primary_places : (w : List ℕ) → primary_of w ≤ length w - count 44 44 w
primary_places w =
    let c = commas_last w in
    tested (eqb (last 44 w) 0) (λ k. rw k (omega arith)) (λ k. rw k (omega (arith, c.0, c.1)))

secondary_places : (w : List ℕ) → secondary_of w ≤ length w - count 44 44 w
secondary_places w =
    let c = commas_last w in
    let d = commas_last (front w) in
    tested (eqb (last 44 w) 0) (λ k. rw k (omega arith))
    (λ k.
    tested (eqb (last 44 (front w)) 0)
    (λ l. rw (k, l) (omega (arith, c.0, c.1)))
    (λ l. rw (k, l) (omega (arith, d.0, d.1, places_take (last 44 w - 1) w, c.0, c.1))))

second_comma : (w : List ℕ) → IsWhole w → (i j : ℕ) → last 44 w ≡ suc j → last 44 (take j w) ≡ suc i → suc i < j
second_comma w p i j e f =
    let c = commas_last w in
    let l : length (take j w) ≡ j = length-take-le j w (omega (arith, c.1)) in
    let d = commas_last (take j w) in
    let h : i < j = omega (arith, d.1) in
    let g : get_or w i 0 ≡ 44 = sym (get_or-take j w i 0 h) ∙ last_comma (take j w) i f in
    let a = p.apart i (omega (arith, c.1)) g in
    apart_from (suc i) j (omega arith) a.1 (last_comma w j e)
  where
    apart_from : (x j : ℕ) → x ≤ j → (get_or w x 0 ≡ 44 → ⊥) → get_or w j 0 ≡ 44 → x < j
    apart_from x j h n g =
        tested (eqb x j) (λ k. absurd (n (rw (eqb-true x j k) g))) (λ k. other (eqb-false x j k))
      where
        other : (x ≡ j → ⊥) → x < j
        other m = tested (ltb x j) (λ k. ltb-true x j k) (λ k. absurd (m (omega (arith, ltb-false x j k))))

secondary_some : (w : List ℕ) → IsWhole w → 0 < primary_of w → 0 < secondary_of w
secondary_some w p h =
    tested (eqb (last 44 w) 0) (λ k. let z : 0 < 0 = rw k at h in absurd (no z))
    (λ k.
    tested (eqb (last 44 (front w)) 0)
    (λ l. rw (k, l) (rw k at h))
    (λ l. rw (k, l) (between_commas (eqb-false (last 44 w) 0 k) (eqb-false (last 44 (front w)) 0 l))))
  where
    no : 0 < 0 → ⊥
    no z = omega arith

    between_commas : (last 44 w ≡ 0 → ⊥) → (last 44 (front w) ≡ 0 → ⊥) → 0 < length (front w) - last 44 (front w)
    between_commas k l =
        let j = last 44 w - 1 in
        let i = last 44 (take j w) - 1 in
        let s = second_comma w p i j (pred (last 44 w) k) (pred (last 44 (take j w)) l) in
        let c = commas_last w in
        let n : length (take j w) ≡ j = length-take-le j w (omega (arith, c.1)) in
        omega (arith, pred (last 44 (take j w)) l)
      where
        pred : (x : ℕ) → (x ≡ 0 → ⊥) → x ≡ suc (x - 1)
        pred zero f = absurd (f refl)
        pred (suc x) f = omega arith

-- ---- the step

step_some : {n : List ℕ} (p : IsPart n) → 1 ≤ step_in p
step_some p =
    let u = value (map as_zero (drop_commas p.whole ++ p.fraction)) in
    tested (eqb u 0) (λ k. rw k (omega arith)) (λ k. rw k (positive u (eqb-false u 0 k)))
  where
    positive : (x : ℕ) → (x ≡ 0 → ⊥) → 1 ≤ x
    positive zero f = absurd (f refl)
    positive (suc x) f = omega arith

-- ---- a pattern that is read

asked_bounds : {a : List ℕ} (w : IsSub a) (n : Negative) → (ManyPlaces a w → ⊥) → (StepOver a w → ⊥) → Bounds (asked w n)
asked_bounds w n m o =
    let l = w.number_is.whole in
    let f = w.number_is.fraction in
    let places = no_more max_whole (length (drop_commas l)) (λ k. m (inl k)) in
    let c = places_left l in
    record {
      step_least = step_some w.number_is;
      step_most = no_more max_step (step_in w.number_is) o;
      least_most = omega (arith, digits_commas l, places, c);
      fraction_most = digits_length f;
      most_most = no_more max_fraction (length f) (λ k. m (inr k));
      primary_most = omega (arith, primary_places l, places, c);
      secondary_most = omega (arith, secondary_places l, places, c);
      secondary_least = secondary_some l w.number_is.whole_is;
    }

pattern_bounds : {s : List ℕ} (w : IsPattern s) → Past35 w → Bounds (pattern_in w)
pattern_bounds (one w) q = asked_bounds w MinusSymbol q.past.places q.step
pattern_bounds (two {a} w v) q = asked_bounds w (own_in (length a + 1) v) (λ m. q.past.places (inl m)) (λ m. q.step (inl m))

pub read_bounds : (s : List ℕ) (p : Pattern) → read_pattern s ≡ Ok p → Bounds p
read_bounds s p e =
    let w = (read_plain s p e).1 in
    let a = read_asks s w p e in
    subst Bounds a.is (pattern_bounds w a.past)

-- "`%` multiplies by 100, `‰` by 1000"
factor_most : {s : List ℕ} (w : IsSub s) → factor_in w ≤ 1000
factor_most w =
    choice (λ (n : ℕ). n ≤ 1000) (eqb (marks_in percent_mark w) 1) (λ k. omega arith)
    (λ k. choice (λ (n : ℕ). n ≤ 1000) (eqb (marks_in permille_mark w) 1) (λ l. omega arith) (λ l. omega arith))

pub read_factor : (s : List ℕ) (p : Pattern) → read_pattern s ≡ Ok p → p.factor ≤ 1000
read_factor s p e =
    let w = (read_plain s p e).1 in
    subst (λ (q : Pattern). q.factor ≤ 1000) (read_asks s w p e).is (asked_factor w)
  where
    asked_factor : {t : List ℕ} (w : IsPattern t) → (pattern_in w).factor ≤ 1000
    asked_factor (one w) = factor_most w
    asked_factor (two w v) = factor_most w
