-- Laws of subpatterns: the table with the step kept at its bound.
use mathlib.Core.Path.{◌≡◌, refl, sym, ap, ap₂, ◌∙◌}
use mathlib.Core.Bool.{true, false}
use mathlib.Core.List.{List, [], ◌∷◌}
use Prim.Native.Nat.{ℕ, zero, suc, ◌+◌, min}
use native.Mathlib.Omega.{arith}
use borrow.Author.Tests.{eq-eqb, ne_eqb, ltb-false}
use lib.ListN.{length, get_or, drop}
use Rattle.decimal.specs.Choice.{either}
use Rattle.decimal.proofs.Choices.{tested, not_both, ltb_same}
use Rattle.pattern_number.specs.Shape.{step_cap}
use Rattle.pattern_reader.specs.Limits.{max_step}
use Rattle.answer.specs.declared.PatternRow.TheVariants.{NotAPattern}
use Rattle.pattern_reader.specs.declared.Negative.{Negative}
use Rattle.pattern_reader.specs.declared.Half.{Half}
use Rattle.pattern_reader.specs.Reading.{step_over, judged, own_affixes, half_of, end_of, refuse, halves, capped_half}

-- ---- the step kept at its bound

over_capped : (h : Half) → step_over (capped_half h) ≡ step_over h
over_capped h = ltb_same max_step (min h.shape.step step_cap) max_step h.shape.step (λ k. omega arith) (λ k. omega arith)

uncapped : (h : Half) → step_over h ≡ false → capped_half h ≡ h
uncapped h e =
    let k : min h.shape.step step_cap ≡ h.shape.step = omega (arith, ltb-false max_step h.shape.step e) in
    rw k

-- rows 33 to 36 do not see the bound
pub judged_capped : (a b : Half) (n : Negative) → judged (capped_half a) (capped_half b) n ≡ judged a b n
judged_capped a b n =
    tested (either (step_over a) (step_over b)) over below
  where
    over : either (step_over a) (step_over b) ≡ true → judged (capped_half a) (capped_half b) n ≡ judged a b n
    over e = rw (over_capped a, over_capped b, e)

    below : either (step_over a) (step_over b) ≡ false → judged (capped_half a) (capped_half b) n ≡ judged a b n
    below e =
        tested (step_over a)
        (λ k. let both-over : either (step_over a) (step_over b) ≡ true = rw k in not_both both-over e)
        (λ k. ap₂ (λ (x y : Half). judged x y n) (uncapped a k) (uncapped b (rw k at e)))

-- ---- the cases of a pattern: one subpattern, a byte that ends it, two subpatterns

-- a byte at a place, and what is behind it
pub record Cut (s : List ℕ) (e f : ℕ) (t : List ℕ) : Type 0 where
  pub byte : get_or s e 0 ≡ f
  pub rest : drop (e + 1) s ≡ t
  pub size : length s ≡ e + 1 + length t

pub cut_at : (e f : ℕ) (s t : List ℕ) → drop e s ≡ f ∷ t → Cut s e f t
cut_at zero f s t p = rw p (record { byte = refl; rest = refl; size = omega arith })
cut_at (suc e) f [] t p = absurd (no (ap length p))
  where
    no : 0 ≡ suc (length t) → ⊥
    no g = omega arith
cut_at (suc e) f (b ∷ s) t p =
    let w = cut_at e f s t p in
    let k : suc e + 1 ≡ suc (e + 1) = omega arith in
    record { byte = w.byte; rest = rw k w.rest; size = omega (arith, w.size) }

module _ (s : List ℕ) (a : Half) (e : a ≡ capped_half (half_of s)) where
  module _ (f : ℕ) (t : List ℕ) (p : drop (end_of a) s ≡ f ∷ t) where
    some : Cut s (end_of a) f t
    some = cut_at (end_of a) f s t p

    more : end_of (half_of s) ≡ length s → ⊥
    more k = let q : end_of a ≡ length s = rw e k in omega (arith, some.size)

    pub halves_stray : (f ≡ 59 → ⊥) → refuse NotAPattern ≡ halves s
    halves_stray h = rw (ne_eqb _ _ more, ne_eqb _ _ (λ k. h (sym (rw e at some.byte) ∙ k)))

    module _ (h : f ≡ 59) (b : Half) (g : b ≡ capped_half (half_of t)) where
      second : b ≡ capped_half (half_of (drop (end_of (half_of s) + 1) s))
      second = rw (rw e at some.rest) g

      whole : end_of a + 1 + length t ≡ length s
      whole = sym some.size

      pub halves_more : (end_of b ≡ length t → ⊥) → refuse NotAPattern ≡ halves s
      halves_more n =
          let k : end_of a + 1 + end_of b ≡ length s → ⊥ = λ q. n (omega (arith, whole)) in
          rw (ne_eqb _ _ more, eq-eqb _ _ (rw e at some.byte ∙ h), ne_eqb _ _ (rw (second, e) at k))

      pub halves_two : end_of b ≡ length t → judged a b (own_affixes (end_of a + 1) b) ≡ halves s
      halves_two n =
          let k : end_of a + 1 + end_of b ≡ length s = omega (arith, whole) in
          let at = end_of (half_of s) + 1 in
          rw (ne_eqb _ _ more, eq-eqb _ _ (rw e at some.byte ∙ h), eq-eqb _ _ (rw (second, e) at k))
          (rw (second, e) (judged_capped (half_of s) (half_of (drop at s)) (own_affixes at (half_of (drop at s)))))
