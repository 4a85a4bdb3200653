-- What the reader counts and works out of a number part is what the sides of its point ask for.
use mathlib.Core.Path.{◌≡◌, refl, sym, ap, ◌∙◌}
use mathlib.Core.Bool.{Bool, true, false}
use mathlib.Core.List.{List, [], ◌∷◌, ◌++◌, map, append-nil, map-append}
use Prim.Native.Nat.{ℕ, ◌+◌, ◌*◌, ◌-◌}
use native.Mathlib.Omega.{arith}
use borrow.Author.Tests.{eqb-true, eqb-false, ltb-false}
use lib.Dec.{eqb, ltb}
use lib.ListN.{length}
use Rattle.std.specs.Prelude.{if◌then◌else◌}
use Rattle.decimal.specs.Choice.{either}
use Rattle.decimal.specs.Digits.{is_digit, AllDigits, value_from, value}
use Rattle.decimal.proofs.Choices.{tested, not_both}
use Rattle.decimal.proofs.Runs.{of_head}
use Rattle.decimal.proofs.Values.{value_append}
use Rattle.pattern_number.specs.Shape.{between, count, misplaced, seen_after, ordered, unit, units_from, step_of, is_hash}
use Rattle.pattern_grammar.specs.NumberPart.{drop_commas, AllHashes, IsFraction, Sides, unpointed, pointed, IsPart}
use Rattle.pattern_grammar.specs.Meaning.{as_zero, step_in}
use Rattle.pattern_grammar.proofs.Parts.{whole_ordered}

-- ---- integer places

pub between_is : (x b : ℕ) → between x x b ≡ true → b ≡ x
between_is x b e =
    tested (ltb b x) (λ k. not_both e (rw k))
    (λ k. tested (ltb x b) (λ l. not_both e (rw (k, l))) (λ l. omega (arith, ltb-false b x k, ltb-false x b l)))

comma_counted : (b : ℕ) → between 44 44 b ≡ eqb b 44
comma_counted b =
    tested (eqb b 44) (λ k. rw (eqb-true b 44 k))
    (λ k. rw k (tested (between 44 44 b) (λ c. absurd (eqb-false b 44 k (between_is 44 b c))) (λ c. c)))

-- every byte of an integer part is a comma or a place
pub places_left : (w : List ℕ) → length (drop_commas w) + count 44 44 w ≡ length w
places_left [] = refl
places_left (b ∷ w) =
    tested (eqb b 44) (λ k. rw (comma_counted b, k) (omega (arith, places_left w))) (λ k. rw (comma_counted b, k) (omega (arith, places_left w)))

-- ---- the step

-- a byte `#` or a digit
abbrev is_figure : ℕ → Bool
is_figure b = either (eqb b 35) (is_digit b)

unit_figure : (n b : ℕ) → is_figure b ≡ true → unit n b ≡ 10 * n + (as_zero b - 48)
unit_figure n b e = tested (eqb b 35) (λ k. rw k (omega arith)) (λ k. let d : is_digit b ≡ true = rw k at e in rw (k, d))

figure_placed : (q : Bool) (b : ℕ) → eqb b 44 ≡ false → misplaced q b ≡ false → is_figure b ≡ true
figure_placed q b c e =
    tested (eqb b 35) (λ k. rw k) (λ k. tested (is_digit b) (λ d. rw (k, d)) (λ d. not_both refl (rw (c, k, d) at e)))

units_whole : (q : Bool) (n : ℕ) (w r : List ℕ) → ordered q w ≡ true → units_from n (w ++ r) ≡ units_from (value_from n (map as_zero (drop_commas w))) r
units_whole q n [] r e = refl
units_whole q n (b ∷ w) r e =
    tested (eqb b 44) (λ k. let c = eqb-true b 44 k in rw c (units_whole q n w r (rw c at e)))
    (λ k.
    tested (misplaced q b) (λ m. not_both e (rw m))
    (λ m.
    rw k
    (ap (λ (u : ℕ). units_from u (w ++ r)) (unit_figure n b (figure_placed q b k m))
    ∙ units_whole (seen_after q b) (10 * n + (as_zero b - 48)) w r (rw m at e))))

-- of a text of which every byte is one
units_figures : (P : List ℕ → Type 0) → ((b : ℕ) (s : List ℕ) → P (b ∷ s) → (is_figure b ≡ true) × P s)
    → (n : ℕ) (s r : List ℕ) → P s → units_from n (s ++ r) ≡ units_from (value_from n (map as_zero s)) r
units_figures P head n [] r e = refl
units_figures P head n (b ∷ s) r e =
    let d = head b s e in
    ap (λ (u : ℕ). units_from u (s ++ r)) (unit_figure n b d.0) ∙ units_figures P head (10 * n + (as_zero b - 48)) s r d.1

units_fraction : (n : ℕ) (f : List ℕ) → IsFraction f → units_from n f ≡ value_from n (map as_zero f)
units_fraction n f p =
    let d = p.figures in
    let m = p.marks in
    let k = value_from n (map as_zero d) in
    ap (units_from n) p.text
    ∙ (units_figures AllDigits digit n d m p.figures_are
    ∙ (ap (units_from k) (sym (append-nil m))
    ∙ (units_figures AllHashes hash k m [] p.marks_are
    ∙ (sym (value_append n (map as_zero d) (map as_zero m))
    ∙ (ap (value_from n) (sym (map-append as_zero d m)) ∙ ap (λ (l : List ℕ). value_from n (map as_zero l)) (sym p.text))))))
  where
    digit : (b : ℕ) (s : List ℕ) → AllDigits (b ∷ s) → (is_figure b ≡ true) × AllDigits s
    digit b s e =
        let d = of_head is_digit b s e in
        (tested (eqb b 35) (λ k. rw k) (λ k. rw (k, d.0)), d.1)

    hash : (b : ℕ) (s : List ℕ) → AllHashes (b ∷ s) → (is_figure b ≡ true) × AllHashes s
    hash b s e =
        let d = of_head is_hash b s e in
        (rw d.0, d.1)

units_sides : {n w f : List ℕ} → Sides n w f → ordered false w ≡ true → IsFraction f → units_from 0 n ≡ value (map as_zero (drop_commas w ++ f))
units_sides (unpointed {w}) o p =
    ap (units_from 0) (sym (append-nil w))
    ∙ (units_whole false 0 w [] o ∙ ap (λ (l : List ℕ). value (map as_zero l)) (sym (append-nil (drop_commas w))))
units_sides (pointed {w} {f}) o p =
    let d = drop_commas w in
    units_whole false 0 w (46 ∷ f) o
    ∙ (units_fraction (value (map as_zero d)) f p
    ∙ (sym (value_append 0 (map as_zero d) (map as_zero f)) ∙ ap value (sym (map-append as_zero d f))))

-- "read the number part with `#` as 0 and commas dropped": the point is passed over
pub step_is : (n : List ℕ) (p : IsPart n) → step_of n ≡ step_in p
step_is n p =
    ap (λ (u : ℕ). if eqb u 0 then 1 else u) (units_sides p.sides (whole_ordered p.whole p.whole_is) p.fraction_is)
