-- A pattern that is read asks for what its parts in the grammar say, and has them where the grammar has them; of a negative subpattern only the
-- affixes are used.
use Rattle.answer.specs.declared.Refusal.{Refusal}
use mathlib.Core.Path.{◌≡◌, refl, sym, ap, subst, ◌∙◌}
use mathlib.Core.List.{List, [], ◌∷◌, ◌++◌, append-nil}
use mathlib.Core.Logic.{◌↔◌, inl}
use Prim.Native.Nat.{ℕ, zero, suc, ◌+◌, ◌≤◌}
use native.Mathlib.Omega.{arith}
use borrow.Author.Tests.{eqb-true, eqb-false}
use lib.Dec.{eqb}
use lib.ListN.{length, take, drop}
use lib.Seq.{take_at, take-length, drop_at, drop-drop}
use Rattle.std.specs.Prelude.{Ok, Result, if◌then◌else◌}
use Rattle.decimal.proofs.Choices.{tested}
use Rattle.pattern_token.specs.Items.{permille as permille_mark}
use Rattle.pattern_reader.specs.declared.Negative.{Negative}
use Rattle.pattern_reader.specs.declared.Negative.TheVariants.{MinusSymbol}
use Rattle.pattern_reader.specs.declared.Pattern.{Pattern}
use Rattle.pattern_reader.specs.Reading.{span, read_pattern}
use Rattle.pattern_grammar.specs.Grammar.{IsSub, IsPattern, one, two}
use Rattle.pattern_grammar.specs.Meaning.{percent_mark, marks_in, factor_in, ManyMarks, InEither, InFirst, asked, own_in, pattern_in}
use Rattle.pattern_grammar.specs.Verdict.{Plain, Verdict, too_long, not_utf8, reserved, not_a_pattern, many_places_law, large_step, many_marks_law, other_marks, read, Asks}
use Rattle.pattern_grammar.specs.Texts.{Parts, Affixes, Multiplies}
use Rattle.pattern_grammar.proofs.Groups.{groups_found}
use Rattle.pattern_grammar.proofs.Subpatterns.{drop_two, sub_before, second_text}
use Rattle.pattern_grammar.proofs.Meanings.{no_more}
use Rattle.pattern_grammar.proofs.Verdicts.{verdict_given, verdict_found, refused_or_read, not_read}

-- ---- what is read

pub read_plain : (s : List ℕ) (p : Pattern) → read_pattern s ≡ Ok p → Plain s × IsPattern s
read_plain s p e = found (verdict_found s) e
  where
    found : {r : Result Pattern Refusal} → Verdict s r → r ≡ Ok p → Plain s × IsPattern s
    found (too_long h) k = not_read _ p k
    found (not_utf8 h u) k = not_read _ p k
    found (reserved h u a) k = not_read _ p k
    found (not_a_pattern q f) k = not_read _ p k
    found (many_places_law q w m) k = not_read _ p k
    found (large_step w q m) k = not_read _ p k
    found (many_marks_law w q m) k = not_read _ p k
    found (other_marks w q m) k = not_read _ p k
    found (read w q m o) k = (q.past.plain, w)

-- in whatever way the text is a pattern
pub read_asks : (s : List ℕ) (w : IsPattern s) (p : Pattern) → read_pattern s ≡ Ok p → Asks w p
read_asks s w p e =
    refused_or_read s (read_plain s p e).0 w (λ row v. not_read row p (sym (verdict_given s v) ∙ e))
    (λ r m o. record { past = r; few = m; same = o; is = pattern_same (sym (verdict_given s (read w r m o)) ∙ e) })
  where
    pattern_same : {q : Pattern} → ◌≡◌ {A = Result Pattern Refusal} (Ok q) (Ok p) → q ≡ p
    pattern_same {q} k = cc

-- so a pattern that is read asks for one thing only
pub same_meaning : (s : List ℕ) (w v : IsPattern s) (p : Pattern) → read_pattern s ≡ Ok p → pattern_in w ≡ pattern_in v
same_meaning s w v p e = (read_asks s w p e).is ∙ sym (read_asks s v p e).is

-- ---- where the parts of a subpattern stand

asked_parts : (a r : List ℕ) (w : IsSub a) (n : Negative) → Parts (a ++ r) (asked w n) w
asked_parts a r w n =
    let t = sub_before a r w in
    let x = w.suffix ++ r in
    record {
      prefix_text = rw t (take_at w.prefix (w.number ++ x) (length w.prefix) refl);
      number_text = rw (t, drop_at w.prefix (w.number ++ x) (length w.prefix) refl) (take_at w.number x (length w.number) refl);
      suffix_text = rw (t, drop_two w.prefix w.number x) (take_at w.suffix r (length w.suffix) refl);
      least = refl;
      fraction = refl;
      most = refl;
      groups = groups_found w.number_is.whole;
      step = refl;
      factor = refl;
    }

-- ---- a pattern of one subpattern

pub one_read : (s : List ℕ) (w : IsSub s) (p : Pattern) → read_pattern s ≡ Ok p
    → Parts s p w × (p.negative ≡ MinusSymbol)
one_read s w p e =
    let same = (read_asks s (one w) p e).is in
    let h : Parts s (asked w MinusSymbol) w = rw append-nil at (asked_parts s [] w MinusSymbol) in
    (subst (λ (q : Pattern). Parts s q w) same h, sym (ap (λ (q : Pattern). q.negative) same))

-- ---- a pattern of two

own_texts : (a b : List ℕ) (v : IsSub b) → Affixes (a ++ (59 ∷ b)) (own_in (length a + 1) v) v.prefix v.suffix
own_texts a b v =
    let s = a ++ (59 ∷ b) in
    let at = length a + 1 in
    let p = v.prefix in
    let n = v.number in
    let x = v.suffix in
    let d = second_text a b in
    record {
      before = span at (length p);
      behind = span (at + length p + length n) (length x);
      own = refl;
      prefix_text = rw (d, v.text) (take_at p (n ++ x) (length p) refl);
      suffix_text =
          ap (λ (l : List ℕ). take (length x) l)
          (further s at (length p) (length n) ∙ rw (d, v.text) (drop_two p n x)) ∙ take-length x;
    }
  where
    further : (s : List ℕ) (at k n : ℕ) → drop (at + k + n) s ≡ drop (k + n) (drop at s)
    further s at k n =
        let e : at + (k + n) ≡ at + k + n = omega arith in
        sym (drop-drop (k + n) at s ∙ ap (λ (m : ℕ). drop m s) e)

pub two_read : (a b : List ℕ) (w : IsSub a) (v : IsSub b) (p : Pattern) → read_pattern (a ++ (59 ∷ b)) ≡ Ok p
    → Parts (a ++ (59 ∷ b)) p w × Affixes (a ++ (59 ∷ b)) p.negative v.prefix v.suffix
two_read a b w v p e =
    let s = a ++ (59 ∷ b) in
    let n = own_in (length a + 1) v in
    subst (λ (q : Pattern). Parts s q w × Affixes s q.negative v.prefix v.suffix)
    (read_asks s (two w v) p e).is (asked_parts a (59 ∷ b) w n, own_texts a b v)

-- ---- what the value is multiplied by

-- of at most one mark in all
multiplied : (x y : ℕ) → x + y ≤ 1
    → let f : ℕ = if eqb x 1 then 100 else if eqb y 1 then 1000 else 1 in
    ((f ≡ 100) ↔ (x ≡ 1)) × ((f ≡ 1000) ↔ (y ≡ 1)) × ((f ≡ 1) ↔ ((x ≡ 0) × (y ≡ 0)))
multiplied x y h =
    tested (eqb x 1)
    (λ k. let e = eqb-true x 1 k in rw k ((λ f. e, λ f. refl), (λ f. omega arith, λ f. omega arith), (λ f. omega arith, λ f. omega (arith, f.0))))
    (λ k.
    tested (eqb y 1)
    (λ l.
    let e = eqb-true y 1 l in
    rw (k, l) ((λ f. omega arith, λ f. omega arith), (λ f. e, λ f. refl), (λ f. omega arith, λ f. omega (arith, f.1))))
    (λ l.
    let n = eqb-false x 1 k in
    let m = eqb-false y 1 l in
    rw (k, l) (
      (λ f. omega arith, λ f. absurd (n f)),
      (λ f. omega arith, λ f. absurd (m f)),
      (λ f. (none x n (omega arith), none y m (omega arith)), λ f. refl),
    )))
  where
    none : (x : ℕ) → (x ≡ 1 → ⊥) → x ≤ 1 → x ≡ 0
    none zero n h = refl
    none (suc zero) n h = absurd (n refl)
    none (suc (suc x)) n h = absurd (omega arith)

marks_multiply : {s : List ℕ} (w : IsSub s) → (ManyMarks s w → ⊥) → Multiplies (factor_in w) s w
marks_multiply w n =
    let x = marks_in percent_mark w in
    let y = marks_in permille_mark w in
    let m = multiplied x y (no_more 1 (x + y) n) in
    record { percent = m.0; permille = m.1; neither = m.2 }

factor_asked : {s : List ℕ} (w : IsPattern s) → (InEither ManyMarks w → ⊥) → InFirst (Multiplies (pattern_in w).factor) w
factor_asked (one w) n = marks_multiply w n
factor_asked (two w v) n = marks_multiply w (λ m. n (inl m))

pub factor_is : (s : List ℕ) (w : IsPattern s) (p : Pattern) → read_pattern s ≡ Ok p → InFirst (Multiplies p.factor) w
factor_is s w p e =
    let a = read_asks s w p e in
    subst (λ (q : Pattern). InFirst (Multiplies q.factor) w) a.is (factor_asked w a.few)
