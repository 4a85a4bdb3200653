-- The reader's half of a subpattern holds what the subpattern's parts in the grammar ask for, so its tests are the conditions of rows 34 to 36.
use mathlib.Core.Path.{◌≡◌, refl, ap, subst, ◌∙◌}
use mathlib.Core.Bool.{Bool, true, false, not}
use mathlib.Core.List.{List, [], ◌++◌, append-nil}
use mathlib.Core.Logic.{◌⊎◌, inl, inr, ⊎_elim}
use Prim.Native.Nat.{ℕ, ◌+◌, ◌-◌, ◌<◌, ◌≤◌}
use native.Mathlib.Omega.{arith}
use borrow.Author.Tests.{eqb-true, eqb-false, lt-ltb, ltb-true, ltb-false}
use lib.Dec.{eqb, ltb}
use lib.ListN.{length}
use Rattle.decimal.specs.Choice.{both, either}
use Rattle.decimal.proofs.Choices.{tested, not_both, both_true}
use Rattle.pattern_affix.specs.declared.Affix.{Affix}
use Rattle.pattern_token.specs.declared.Mark.{Mark}
use Rattle.pattern_token.specs.declared.Mark.TheVariants.{Percent, Permille}
use Rattle.pattern_token.specs.Items.{permille as permille_mark, items}
use Rattle.pattern_affix.specs.Affixes.{marks}
use Rattle.pattern_number.specs.Shape.{whole_of, fraction_of, count, digits, primary_of, secondary_of, step_of}
use Rattle.pattern_reader.specs.Limits.{max_whole, max_fraction, max_step}
use Rattle.pattern_reader.specs.declared.Half.{Half}
use Rattle.pattern_reader.specs.declared.Negative.{Negative}
use Rattle.pattern_reader.specs.Reading.{number_of, suffix_of, marks_of, half_of, many_places, step_over, many_marks, same_marks, factor_of, pattern_of, own_affixes}
use Rattle.pattern_grammar.specs.NumberPart.{drop_commas}
use Rattle.pattern_grammar.specs.Grammar.{IsSub}
use Rattle.pattern_grammar.specs.Meaning.{step_in, percent_mark, marks_in, factor_in, ManyPlaces, StepOver, ManyMarks, SameMarks, asked, own_in}
use Rattle.pattern_grammar.proofs.Parts.{part_sides}
use Rattle.pattern_grammar.proofs.Marks.{marks_bare}
use Rattle.pattern_grammar.proofs.Numbers.{places_left, step_is}
use Rattle.pattern_grammar.proofs.Subpatterns.{ends, read_sub, parts_before}

-- ---- what a half holds

pub record Meant {a : List ℕ} (w : IsSub a) (h : Half) : Type 0 where
  pub prefix : h.prefix ≡ length w.prefix
  pub number : h.number ≡ length w.number
  pub suffix : h.suffix ≡ length w.suffix
  pub whole : h.shape.whole ≡ length (drop_commas w.number_is.whole)
  pub least : h.shape.least ≡ digits w.number_is.whole
  pub fraction : h.shape.fraction ≡ digits w.number_is.fraction
  pub most : h.shape.most ≡ length w.number_is.fraction
  pub primary : h.shape.primary ≡ primary_of w.number_is.whole
  pub secondary : h.shape.secondary ≡ secondary_of w.number_is.whole
  pub step : h.shape.step ≡ step_in w.number_is
  pub percents : h.percents ≡ marks_in percent_mark w
  pub permilles : h.permilles ≡ marks_in permille_mark w

-- the half that is read of a subpattern before what ends it
module _ (a r : List ℕ) (w : IsSub a) (e : ends r ≡ true) where
  marks_read : (m : Mark) → marks_of m (a ++ r) ≡ marks m (items w.prefix) + marks m (items w.suffix)
  marks_read m =
      let t = parts_before a r w e in
      ap (λ (l : List ℕ). marks m (items l) + marks m (items (suffix_of (a ++ r)))) t.0
      ∙ ap (λ (l : List ℕ). marks m (items w.prefix) + marks m (items l)) t.2

  pub half_meant : Meant w (half_of (a ++ r))
  half_meant =
      let d = read_sub a r w e in
      let p = w.number_is in
      let t = part_sides w.number p in
      let l : whole_of (number_of (a ++ r)) ≡ p.whole = ap whole_of d.part ∙ t.0 in
      let f : fraction_of (number_of (a ++ r)) ≡ p.fraction = ap fraction_of d.part ∙ t.1 in
      record {
        prefix = d.prefix;
        number = d.number;
        suffix = ap (λ (y : Affix). y.len) d.suffix;
        whole = ap (λ (x : List ℕ). length x - count 44 44 x) l ∙ omega (arith, places_left p.whole);
        least = ap digits l;
        fraction = ap digits f;
        most = ap length f;
        primary = ap primary_of l;
        secondary = ap secondary_of l;
        step = ap step_of d.part ∙ step_is w.number p;
        percents = marks_read Percent ∙ rw ((marks_bare w.prefix_is).0, (marks_bare w.suffix_is).0);
        permilles = marks_read Permille ∙ rw ((marks_bare w.prefix_is).1, (marks_bare w.suffix_is).1);
      }

pub alone_meant : (s : List ℕ) (w : IsSub s) → Meant w (half_of s)
alone_meant s w = subst (λ (l : List ℕ). Meant w (half_of l)) (append-nil s) (half_meant s [] w refl)

-- ---- tests that hold exactly where a statement does

pub record Told (b : Bool) (P : Type 0) : Type 0 where
  pub yes : b ≡ true → P
  pub no : b ≡ false → P → ⊥

module _ {b : Bool} {P : Type 0} (t : Told b P) where
  pub holds : P → b ≡ true
  holds p = tested b (λ k. k) (λ k. absurd (t.no k p))

  pub fails : (P → ⊥) → b ≡ false
  fails n = tested b (λ k. absurd (n (t.yes k))) (λ k. k)

  pub settled : {A : Type 0} → (P → A) → ((P → ⊥) → A) → A
  settled f g = tested b (λ k. f (t.yes k)) (λ k. g (t.no k))

pub no_more : (x y : ℕ) → (x < y → ⊥) → y ≤ x
no_more x y n = tested (ltb x y) (λ k. absurd (n (ltb-true x y k))) (λ k. ltb-false x y k)

below_told : (x y : ℕ) → Told (ltb x y) (x < y)
below_told x y = record { yes = λ k. ltb-true x y k; no = λ k h. absurd (not_below (ltb-false x y k) h) }
  where
    not_below : y ≤ x → x < y → ⊥
    not_below g h = omega arith

equal_told : (x y : ℕ) → Told (eqb x y) (x ≡ y)
equal_told x y = record { yes = λ k. eqb-true x y k; no = λ k. eqb-false x y k }

module _ {a b : Bool} {P Q : Type 0} (t : Told a P) (u : Told b Q) where
  pub either_told : Told (either a b) (P ⊎ Q)
  either_told =
      record {
        yes = λ k. tested a (λ e. inl (t.yes e)) (λ e. inr (u.yes (rw e at k)));
        no = λ k. tested a (λ e. not_both (rw e) k) (λ e. ⊎_elim (t.no e) (u.no (rw e at k)));
      }

  both_told : Told (both a b) (P × Q)
  both_told =
      record {
        yes = λ k. (t.yes (both_true a b k).0, u.yes (both_true a b k).1);
        no = λ k. tested a (λ e p. u.no (rw e at k) p.1) (λ e p. t.no e p.0);
      }

pub not_holds : (b : Bool) → not b ≡ true → b ≡ false
not_holds true e = not_both e refl
not_holds false e = refl

pub not_fails : (b : Bool) → not b ≡ false → b ≡ true
not_fails true e = refl
not_fails false e = not_both refl e

pub not_told : {b : Bool} {P : Type 0} → Told b P → Told (not b) (P → ⊥)
not_told {b} {P} t = record { yes = λ k. t.no (not_holds b k); no = λ k n. n (t.yes (not_fails b k)) }

-- of one statement asked twice
pub twice_told : {b : Bool} {P : Type 0} → Told b P → Told (either b b) P
twice_told {b} {P} t =
    let u = either_told t t in
    record { yes = λ k. ⊎_elim (λ p. p) (λ p. p) (u.yes k); no = λ k p. u.no k (inl p) }

-- ---- 34 to 36

module _ {a : List ℕ} (w : IsSub a) (h : Half) (m : Meant w h) where
  pub places_told : Told (many_places h) (ManyPlaces a w)
  places_told =
      rw (m.whole, m.most)
      (either_told (below_told max_whole (length (drop_commas w.number_is.whole))) (below_told max_fraction (length w.number_is.fraction)))

  pub step_told : Told (step_over h) (StepOver a w)
  step_told = rw m.step (below_told max_step (step_in w.number_is))

  pub marks_told : Told (many_marks h) (ManyMarks a w)
  marks_told = rw (m.percents, m.permilles) (below_told 1 (marks_in percent_mark w + marks_in permille_mark w))

pub same_told : {a b : List ℕ} (w : IsSub a) (v : IsSub b) (h k : Half) → Meant w h → Meant v k → Told (same_marks h k) (SameMarks w v)
same_told w v h k m n =
    rw (m.percents, m.permilles, n.percents, n.permilles)
    (both_told (equal_told (marks_in percent_mark w) (marks_in percent_mark v)) (equal_told (marks_in permille_mark w) (marks_in permille_mark v)))

-- ---- what is read

-- of no more than one mark, some is one
one_mark : (x : ℕ) → x ≤ 1 → ltb 0 x ≡ eqb x 1
one_mark x h =
    tested (eqb x 1) (λ k. rw (k, lt-ltb 0 x (omega (arith, eqb-true x 1 k))))
    (λ k. rw k (tested (ltb 0 x) (λ l. absurd (eqb-false x 1 k (omega (arith, ltb-true 0 x l)))) (λ l. l)))

factor_meant : {a : List ℕ} (w : IsSub a) (h : Half) → Meant w h → many_marks h ≡ false → factor_of h ≡ factor_in w
factor_meant w h m k =
    let l : h.percents + h.permilles ≤ 1 = ltb-false 1 (h.percents + h.permilles) k in
    rw (one_mark h.percents (omega (arith, l)), one_mark h.permilles (omega (arith, l)), m.percents, m.permilles)

pub pattern_meant : {a : List ℕ} (w : IsSub a) (h : Half) → Meant w h → many_marks h ≡ false → (n : Negative) → pattern_of h n ≡ asked w n
pattern_meant w h m k n =
    rw (m.prefix, m.number, m.suffix, m.least, m.fraction, m.most, m.primary, m.secondary, m.step, factor_meant w h m k)

pub own_meant : {b : List ℕ} (v : IsSub b) (h : Half) → Meant v h → (at : ℕ) → own_affixes at h ≡ own_in at v
own_meant v h m at = rw (m.prefix, m.number, m.suffix)
