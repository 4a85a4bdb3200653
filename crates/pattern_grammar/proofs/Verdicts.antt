-- Rows 30 to 36: a pattern gets the one answer that the table gives it.
use Rattle.answer.specs.declared.Refusal.{Refusal}
use mathlib.Core.Path.{◌≡◌, refl, sym, ap, subst, ◌∙◌}
use mathlib.Core.Bool.{true, false, not}
use mathlib.Core.List.{List, [], ◌∷◌, ◌++◌, append-nil}
use Prim.Native.Nat.{ℕ, ◌+◌}
use native.Mathlib.Omega.{arith}
use borrow.Author.Tests.{eq-eqb, ne_eqb, lt-ltb, le-ltb, ltb-true, ltb-false}
use lib.Dec.{eqb, ltb}
use lib.ListN.{length, get_or, drop, length-append}
use Rattle.std.specs.Prelude.{Ok, Result, if◌then◌else◌}
use Rattle.decimal.specs.Choice.{both, either}
use Rattle.decimal.proofs.Choices.{tested, not_both, either_false}
use Rattle.utf8.specs.Utf8.{is_utf8}
use Rattle.utf8.proofs.Scalars.{utf8_sound}
use Rattle.pattern_token.specs.Items.{items}
use Rattle.pattern_affix.specs.Affixes.{any_reserved}
use Rattle.answer.specs.declared.PatternRow.{PatternRow}
use Rattle.answer.specs.declared.PatternRow.TheVariants.{NotAPattern, TooManyPlaces, StepTooLarge, PercentMismatch}
use Rattle.pattern_reader.specs.Limits.{max_bytes}
use Rattle.pattern_reader.specs.declared.Half.{Half}
use Rattle.pattern_reader.specs.declared.Negative.{Negative}
use Rattle.pattern_reader.specs.declared.Negative.TheVariants.{MinusSymbol}
use Rattle.pattern_reader.specs.declared.Pattern.{Pattern}
use Rattle.pattern_reader.specs.Reading.{half_of, end_of, fits, many_places, step_over, many_marks, same_marks, pattern_of, own_affixes, judged_marks, halves, read_pattern, refuse}
use Rattle.pattern_grammar.specs.Grammar.{IsSub, IsPattern, one, two}
use Rattle.pattern_grammar.specs.Meaning.{ManyPlaces, StepOver, ManyMarks, InEither, OtherMarks, own_in, pattern_in}
use Rattle.pattern_grammar.specs.Verdict.{Plain, Past34, Past35, Verdict, too_long, not_utf8, reserved, not_a_pattern, many_places_law, large_step, many_marks_law, other_marks, read}
use Rattle.pattern_grammar.proofs.Reserved.{reserved_told, text_utf8, plain_items}
use Rattle.pattern_grammar.proofs.Halves.{well_formed, second_half, negative_of}
use Rattle.pattern_grammar.proofs.Subpatterns.{read_end, second_text, pattern_sound, pattern_complete}
use Rattle.pattern_grammar.proofs.Meanings.{Meant, half_meant, alone_meant, Told, holds, fails, settled, either_told, twice_told, not_told, not_holds, not_fails, places_told, step_told, marks_told, same_told, pattern_meant, own_meant}

-- ---- the halves of a text that is well formed, and of one that is not

-- rows 34 to 36
judged_rest : Half → Half → Negative → Result Pattern Refusal
judged_rest a b n =
    if either (many_places a) (many_places b) then refuse TooManyPlaces else
    if either (step_over a) (step_over b) then refuse StepTooLarge else
    judged_marks a b n

halves_good : (s : List ℕ) → well_formed s ≡ true → halves s ≡ judged_rest (half_of s) (second_half s) (negative_of s)
unfolding judged_rest
halves_good s e = tested (eqb (end_of (half_of s)) (length s)) alone other
  where
    alone : eqb (end_of (half_of s)) (length s) ≡ true → halves s ≡ judged_rest (half_of s) (second_half s) (negative_of s)
    alone k =
        let f : fits (half_of s) ≡ true = rw k at e in
        rw (k, f)

    other : eqb (end_of (half_of s)) (length s) ≡ false → halves s ≡ judged_rest (half_of s) (second_half s) (negative_of s)
    other k =
        let at = end_of (half_of s) in
        let b = half_of (drop (at + 1) s) in
        tested (eqb (get_or s at 0) 59)
        (λ g.
        tested (eqb (at + 1 + end_of b) (length s))
        (λ l.
        let f : both (fits (half_of s)) (fits b) ≡ true = rw (k, g, l) at e in
        rw (k, g, l, f))
        (λ l. not_both e (rw (k, g, l))))
        (λ g. not_both e (rw (k, g)))

halves_bad : (s : List ℕ) → well_formed s ≡ false → halves s ≡ refuse NotAPattern
halves_bad s e = tested (eqb (end_of (half_of s)) (length s)) alone other
  where
    alone : eqb (end_of (half_of s)) (length s) ≡ true → halves s ≡ refuse NotAPattern
    alone k =
        let f : fits (half_of s) ≡ false = rw k at e in
        rw (k, f)

    other : eqb (end_of (half_of s)) (length s) ≡ false → halves s ≡ refuse NotAPattern
    other k =
        let at = end_of (half_of s) in
        let b = half_of (drop (at + 1) s) in
        tested (eqb (get_or s at 0) 59)
        (λ g.
        tested (eqb (at + 1 + end_of b) (length s))
        (λ l.
        let f : both (fits (half_of s)) (fits b) ≡ false = rw (k, g, l) at e in
        rw (k, g, l, f))
        (λ l. rw (k, g, l)))
        (λ g. rw (k, g))

-- ---- the reader's halves of a pattern

-- the halves that rows 34 to 36 judge, with the negative affixes, and that each row's test is its condition
record Grounds {s : List ℕ} (w : IsPattern s) : Type 0 where
  first : Half
  second : Half
  negative : Negative
  judged_by : halves s ≡ judged_rest first second negative
  places : Told (either (many_places first) (many_places second)) (InEither ManyPlaces w)
  step : Told (either (step_over first) (step_over second)) (InEither StepOver w)
  marks : Told (either (many_marks first) (many_marks second)) (InEither ManyMarks w)
  other : Told (not (same_marks first second)) (OtherMarks w)
  is : either (many_marks first) (many_marks second) ≡ false → pattern_of first negative ≡ pattern_in w

one_grounds : (s : List ℕ) (w : IsSub s) → Grounds (one w)
one_grounds s w =
    let h = half_of s in
    let m = alone_meant s w in
    let e : end_of h ≡ length s = ap (λ (l : List ℕ). end_of (half_of l)) (sym (append-nil s)) ∙ read_end s [] w refl in
    let k = eq-eqb (end_of h) (length s) e in
    let same : same_marks h h ≡ true = rw (eq-eqb h.percents h.percents refl, eq-eqb h.permilles h.permilles refl) in
    record {
      first = h;
      second = h;
      negative = MinusSymbol;
      judged_by = halves_good s (pattern_complete (one w)) ∙ rw k;
      places = twice_told (places_told w h m);
      step = twice_told (step_told w h m);
      marks = twice_told (marks_told w h m);
      other = record { yes = λ y. not_both same (not_holds (same_marks h h) y); no = λ _ o. o };
      is = λ y. pattern_meant w h m (either_false (many_marks h) (many_marks h) y).0 MinusSymbol;
    }

two_grounds : (a b : List ℕ) (w : IsSub a) (v : IsSub b) → Grounds (two w v)
two_grounds a b w v =
    let s = a ++ (59 ∷ b) in
    let h = half_of s in
    let l = half_of b in
    let m : Meant w h = half_meant a (59 ∷ b) w refl in
    let n = alone_meant b v in
    let e : end_of h ≡ length a = read_end a (59 ∷ b) w refl in
    let k = ne_eqb (end_of h) (length s) (λ y. omega (arith, length-append a (59 ∷ b))) in
    let d : drop (end_of h + 1) s ≡ b = ap (λ (i : ℕ). drop (i + 1) s) e ∙ second_text a b in
    let x : second_half s ≡ l = rw (k, d) in
    let y : negative_of s ≡ own_in (length a + 1) v =
    rw (k, d) (ap (λ (i : ℕ). own_affixes (i + 1) l) e ∙ own_meant v l n (length a + 1)) in
    record {
      first = h;
      second = l;
      negative = own_in (length a + 1) v;
      judged_by =
          halves_good s (pattern_complete (two w v))
          ∙ (ap (λ (i : Half). judged_rest h i (negative_of s)) x ∙ ap (λ (i : Negative). judged_rest h l i) y);
      places = either_told (places_told w h m) (places_told v l n);
      step = either_told (step_told w h m) (step_told v l n);
      marks = either_told (marks_told w h m) (marks_told v l n);
      other = not_told (same_told w v h l m n);
      is = λ y. pattern_meant w h m (either_false (many_marks h) (many_marks l) y).0 (own_in (length a + 1) v);
    }

grounds : {s : List ℕ} (w : IsPattern s) → Grounds w
grounds (one {s} w) = one_grounds s w
grounds (two {a} {b} w v) = two_grounds a b w v

-- ---- each row's condition gives its answer

plain_read : (s : List ℕ) → Plain s → read_pattern s ≡ halves s
plain_read s p = rw (le-ltb max_bytes (length s) p.short, text_utf8 s p.utf8, plain_items s p)

not_formed : (s : List ℕ) → (IsPattern s → ⊥) → well_formed s ≡ false
not_formed s f = tested (well_formed s) (λ k. absurd (f (pattern_sound s k))) (λ k. k)

judged_read : (s : List ℕ) (w : IsPattern s) → Plain s → read_pattern s ≡ judged_rest (grounds w).first (grounds w).second (grounds w).negative
judged_read s w p = plain_read s p ∙ (grounds w).judged_by

-- the rows of two subpatterns that have the grammar
module _ (a b : Half) (n : Negative) where
  rest_34 : either (many_places a) (many_places b) ≡ true → judged_rest a b n ≡ refuse TooManyPlaces
  unfolding judged_rest
  rest_34 e = rw e

  rest_35 : either (many_places a) (many_places b) ≡ false → either (step_over a) (step_over b) ≡ true → judged_rest a b n ≡ refuse StepTooLarge
  unfolding judged_rest
  rest_35 e f = rw (e, f)

  rest_36 : either (many_places a) (many_places b) ≡ false → either (step_over a) (step_over b) ≡ false → either (many_marks a) (many_marks b) ≡ true
      → judged_rest a b n ≡ refuse PercentMismatch
  unfolding judged_rest
  rest_36 e f g = rw (e, f, g)

  rest_differ : either (many_places a) (many_places b) ≡ false → either (step_over a) (step_over b) ≡ false → not (same_marks a b) ≡ true
      → judged_rest a b n ≡ refuse PercentMismatch
  unfolding judged_rest
  rest_differ e f h = tested (either (many_marks a) (many_marks b)) (λ g. rw (e, f, g)) (λ g. rw (e, f, g, not_holds (same_marks a b) h))

  rest_read : either (many_places a) (many_places b) ≡ false → either (step_over a) (step_over b) ≡ false → either (many_marks a) (many_marks b) ≡ false
      → not (same_marks a b) ≡ false → judged_rest a b n ≡ Ok (pattern_of a n)
  unfolding judged_rest
  rest_read e f g h = rw (e, f, g, not_fails (same_marks a b) h)

-- "given exactly when": the answer whose row's condition holds is the reader's answer ..
pub verdict_given : (s : List ℕ) {r : Result Pattern Refusal} → Verdict s r → read_pattern s ≡ r
verdict_given s (too_long h) = rw (lt-ltb max_bytes (length s) h)
verdict_given s (not_utf8 h u) =
    let k : is_utf8 s ≡ false = tested (is_utf8 s) (λ k. absurd (u (utf8_sound s k))) (λ k. k) in
    rw (le-ltb max_bytes (length s) h, k)
verdict_given s (reserved h u a) = rw (le-ltb max_bytes (length s) h, text_utf8 s u, (reserved_told s).1 a)
verdict_given s (not_a_pattern p f) = plain_read s p ∙ halves_bad s (not_formed s f)
verdict_given s (many_places_law p w e) =
    let g = grounds w in
    judged_read s w p ∙ rest_34 g.first g.second g.negative (holds g.places e)
verdict_given s (large_step w p e) =
    let g = grounds w in
    judged_read s w p.plain ∙ rest_35 g.first g.second g.negative (fails g.places p.places) (holds g.step e)
verdict_given s (many_marks_law w p e) =
    let g = grounds w in
    judged_read s w p.past.plain
    ∙ rest_36 g.first g.second g.negative (fails g.places p.past.places) (fails g.step p.step) (holds g.marks e)
verdict_given s (other_marks w p e) =
    let g = grounds w in
    judged_read s w p.past.plain
    ∙ rest_differ g.first g.second g.negative (fails g.places p.past.places) (fails g.step p.step) (holds g.other e)
verdict_given s (read w p m o) =
    let g = grounds w in
    let k = fails g.marks m in
    judged_read s w p.past.plain
    ∙ (rest_read g.first g.second g.negative (fails g.places p.past.places) (fails g.step p.step) k (fails g.other o)
    ∙ ap Ok (g.is k))

-- a plain pattern, in whatever way the text is one, is refused by one of 34 to 36 or is read
pub refused_or_read : {A : Type 0} (s : List ℕ) → Plain s → (w : IsPattern s)
    → ((row : PatternRow) → Verdict s (refuse row) → A)
    → (Past35 w → (InEither ManyMarks w → ⊥) → (OtherMarks w → ⊥) → A)
    → A
refused_or_read s p w refused is =
    let g = grounds w in
    settled g.places (λ e. refused TooManyPlaces (many_places_law p w e))
    (λ n.
    let q : Past34 w = record { plain = p; places = n } in
    settled g.step (λ e. refused StepTooLarge (large_step w q e))
    (λ l.
    let r : Past35 w = record { past = q; step = l } in
    settled g.marks (λ e. refused PercentMismatch (many_marks_law w r e))
    (λ m. settled g.other (λ e. refused PercentMismatch (other_marks w r e)) (λ o. is r m o))))

-- .. and some row's condition holds of every text, so the reader's answer is always one whose row's condition holds
made : (s : List ℕ) {r : Result Pattern Refusal} → Verdict s r → Verdict s (read_pattern s)
made s v = subst (Verdict s) (sym (verdict_given s v)) v

pub verdict_found : (s : List ℕ) → Verdict s (read_pattern s)
verdict_found s = tested (ltb max_bytes (length s)) (λ k. made s (too_long (ltb-true max_bytes (length s) k))) short
  where
    formed : Plain s → Verdict s (read_pattern s)
    formed p =
        tested (well_formed s)
        (λ k. let w = pattern_sound s k in refused_or_read s p w (λ row v. made s v) (λ r m o. made s (read w r m o)))
        (λ k. made s (not_a_pattern p (λ w. not_both (pattern_complete w) k)))

    short : ltb max_bytes (length s) ≡ false → Verdict s (read_pattern s)
    short k =
        let h = ltb-false max_bytes (length s) k in
        tested (is_utf8 s)
        (λ u.
        let t = utf8_sound s u in
        tested (any_reserved (items s)) (λ a. made s (reserved h t ((reserved_told s).0 a)))
        (λ a. formed (record { short = h; utf8 = t; unreserved = λ r. not_both ((reserved_told s).1 r) a })))
        (λ u. made s (not_utf8 h (λ t. not_both (text_utf8 s t) u)))

-- a refusal is not a pattern that is read
pub not_read : {A : Type 0} (row : PatternRow) (p : Pattern) → refuse row ≡ Ok p → A
not_read row p e = absurd (no e)
  where
    no : refuse row ≡ Ok p → ⊥
    no g =
        let z : ◌≡◌ {A = ℕ} 0 1 = cc in
        omega arith
