-- Every number read is admitted, and every admitted number is read from some text.
use mathlib.Core.Path.{◌≡◌, refl, sym, ap, ◌∙◌, subst}
use mathlib.Core.Bool.{Bool, true, false}
use mathlib.Core.List.{List, [], ◌∷◌, ◌++◌}
use Prim.Native.Nat.{ℕ, ◌+◌, ◌*◌, ◌/◌, ◌%◌, ◌^◌, ◌≤◌, ◌<◌}
use native.Mathlib.Omega.{arith}
use native.Mathlib.Nat.{mul-le-mul_right, mod-eq_of_lt, mod-lt, div-add-mod', div-lt_iff_lt-mul, le-div_iff_mul-le}
use lib.Dec.{eqb}
use borrow.Author.Tests.{eq-eqb, ne_eqb, eqb-true, eqb-false}
use lib.ListN.{length, get_or, length-append}
use lib.Seq.{drop_at}
use Rattle.std.specs.Prelude.{Ok, if◌then◌else◌}
use Rattle.decimal.specs.Digits.{run, value, first, figures, numeral, AllDigits, is_digit}
use Rattle.decimal.proofs.Choices.{tested}
use Rattle.decimal.proofs.Runs.{of_append, of_drop}
use Rattle.decimal.proofs.Values.{value_append, value_from_law, value_lt, value_scales, digits_first, length_first, first_append, power_pos, power_mono}
use Rattle.decimal.proofs.Zeros.{value_below}
use Rattle.decimal.proofs.Figured.{length_figures, digits_figures, value_figures, figures_of, value_numeral, digits_numeral, numeral_some, numeral_short, numeral_head}
use Rattle.number.specs.Limits.{max_bytes, max_digits}
use Rattle.number.specs.Grammar.{Parts, Spells, is_exponent, sign_text, marked, text_of}
use Rattle.number.specs.Reading.{parts_from, shift_of, number_of, significant, read_number}
use Rattle.number.specs.Table.{AfterZero, integer_digits, fraction_digits, Past15}
use Rattle.number.specs.Admitted.{Admitted, number_from}
use Rattle.number.specs.declared.Number.{Number}
use Rattle.number.proofs.Sizes.{within_digits}
use Rattle.number.proofs.Table.{reads, read_if}

-- ---- every number read is admitted

integer_digits_law : (s : List ℕ) (p : Parts) → Spells s p → AllDigits (integer_digits p)
integer_digits_law s p h = of_append is_digit p.whole (first (shift_of p) p.fraction) h.whole_digits_law (digits_first (shift_of p) p.fraction h.fraction_digits_law)

fraction_digits_law : (s : List ℕ) (p : Parts) → Spells s p → AllDigits (fraction_digits p)
fraction_digits_law s p h = of_drop is_digit (shift_of p) p.fraction h.fraction_digits_law

written : (x : List ℕ) → 0 < value x → 0 < length x
written [] h = omega arith
written (b ∷ s) h = omega arith

-- an integer part above 0, shifted by e places, is at least 10 ^ e
shift_grows : (whole fraction : List ℕ) (e : ℕ) → 0 < value whole → 10 ^ e ≤ value (whole ++ first e fraction)
shift_grows whole fraction e h =
    rw (value_append 0 whole (first e fraction))
    (omega (arith, rw (length_first e fraction) at (value_scales (value whole) (first e fraction)), mul-le-mul_right (10 ^ e) h))

admitted_parts : (s : List ℕ) (p : Parts) → Past15 s p → Admitted (shift_of p) (length (fraction_digits p)) (value (integer_digits p)) (value (fraction_digits p))
admitted_parts s p h =
    let x = h.past.past.past.past.spells in
    record {
      exponent = h.past.past.past.exponent;
      places = h.places;
      whole = omega (arith, value_below (integer_digits p) (integer_digits_law s p x), power_mono {i = significant (integer_digits p)} {j = max_digits} h.past.digits);
      fraction = value_lt (fraction_digits p) (fraction_digits_law s p x);
      shifted = λ k. shift_grows p.whole p.fraction (shift_of p) (above k);
    }
  where
    above : 0 < shift_of p → 0 < value p.whole
    above k =
        tested (eqb (value p.whole) 0)
        (λ e. absurd (h.past.past.zero (written p.exponent k, eqb-true (value p.whole) 0 e)))
        (λ e. pos (eqb-false (value p.whole) 0 e))
      where
        pos : (value p.whole ≡ 0 → ⊥) → 0 < value p.whole
        pos f = omega arith

pub admitted : (s : List ℕ) (n : Number) → read_number s ≡ Ok n → Admitted n.e n.v.0 n.i n.f.0
admitted s n e =
    let r = (reads s n).0 e in
    subst (λ (m : Number). Admitted m.e m.v.0 m.i m.f.0) r.1.1 (admitted_parts s r.0 r.1.0)

-- w and t are those of v and f alone, so a number read is the one with its sign and its e, v, i and f
from_parts : (s : List ℕ) (p : Parts) → Past15 s p
    → number_of p ≡ number_from p.negative (shift_of p) (length (fraction_digits p)) (value (integer_digits p)) (value (fraction_digits p))
from_parts s p h = rw (figures_of (fraction_digits p) (fraction_digits_law s p h.past.past.past.past.spells))

pub four_numbers : (s : List ℕ) (n : Number) → read_number s ≡ Ok n → n ≡ number_from n.negative n.e n.v.0 n.i n.f.0
four_numbers s n e =
    let r = (reads s n).0 e in
    subst (λ (m : Number). m ≡ number_from m.negative m.e m.v.0 m.i m.f.0) r.1.1 (from_parts s r.0 r.1.0)

-- ---- every admitted number has a text

-- the digits of an exponent: none is written for 0
exponent_text : ℕ → List ℕ
exponent_text e = if eqb e 0 then [] else numeral e

same_four : (negative : Bool) {e e' v v' i i' f f' : ℕ} → e ≡ e' → v ≡ v' → i ≡ i' → f ≡ f' → number_from negative e v i f ≡ number_from negative e' v' i' f'
same_four negative p q r s = rw (p, q, r, s)

marked_length : (m : ℕ) (s : List ℕ) → length (marked m s) ≤ 1 + length s
marked_length m [] = omega arith
marked_length m (b ∷ s) = omega arith

sign_length : (negative : Bool) → length (sign_text negative) ≤ 1
sign_length true = omega arith
sign_length false = omega arith

module _ (negative : Bool) (e v i f : ℕ) (a : Admitted e v i f) where
  -- the integer digits in front of the point and behind it, once it is shifted back
  front : List ℕ
  front = figures max_digits (i / 10 ^ e)

  back : List ℕ
  back = figures e (i % 10 ^ e)

  parts : Parts
  parts = parts_from negative front (back ++ figures v f) (exponent_text e)

  text : List ℕ
  text = text_of 99 parts

  e_small : e < 10 ^ 2
  e_small = omega (arith, a.exponent)

  exponent_value : value (exponent_text e) ≡ e
  unfolding exponent_text
  exponent_value =
      tested (eqb e 0) (λ k. rw k (sym (eqb-true e 0 k)))
      (λ k. rw k (value_numeral e (omega (arith, e_small))))

  exponent_right : 0 < length (exponent_text e) → is_exponent (exponent_text e) ≡ true
  unfolding exponent_text
  exponent_right h = tested (eqb e 0) zero_case above_case
    where
      zero_case : eqb e 0 ≡ true → is_exponent (exponent_text e) ≡ true
      zero_case k =
          let h' : 0 < 0 = rw k at h in
          absurd (omega arith)

      above_case : eqb e 0 ≡ false → is_exponent (exponent_text e) ≡ true
      above_case k =
          let pos = eqb-false e 0 k in
          rw k (rw (ne_eqb (length (numeral e)) 0 (λ z. none_written z), ne_eqb (get_or (numeral e) 0 0) 48 (numeral_head e (omega arith) (omega (arith, e_small))), eq-eqb (run (numeral e)) (length (numeral e)) (digits_numeral e)))
        where
          none_written : length (numeral e) ≡ 0 → ⊥
          none_written z = omega (arith, numeral_some e)

  exponent_length : length (exponent_text e) ≤ 2
  unfolding exponent_text
  exponent_length = tested (eqb e 0) (λ k. rw k (omega arith)) (λ k. rw k (numeral_short e 2 (omega arith) e_small))

  front_value : value front ≡ i / 10 ^ e
  unfolding front
  front_value = value_figures max_digits (i / 10 ^ e) ∙ mod-eq_of_lt below
    where
      below : i / 10 ^ e < 10 ^ max_digits
      below = (div-lt_iff_lt-mul {k = 10 ^ e} {x = i} {y = 10 ^ max_digits} (power_pos e)).1 (omega (arith, a.whole, mul-le-mul_right (10 ^ max_digits) (power_pos e)))

  back_value : value back ≡ i % 10 ^ e
  unfolding back
  back_value = value_figures e (i % 10 ^ e) ∙ mod-eq_of_lt (mod-lt i (power_pos e))

  back_length : length back ≡ e
  unfolding back
  back_length = length_figures e (i % 10 ^ e)

  whole_value : value (front ++ back) ≡ i
  whole_value =
      value_append 0 front back ∙ value_from_law (value front) back
      ∙ rw (front_value, back_value, back_length) (div-add-mod' i (10 ^ e))

  shift_is : shift_of parts ≡ e
  unfolding parts
  shift_is = exponent_value

  integer_is : integer_digits parts ≡ front ++ back
  unfolding parts
  integer_is = rw exponent_value (ap (λ (l : List ℕ). front ++ l) (subst (λ (k : ℕ). first k (back ++ figures v f) ≡ back) back_length (first_append back (figures v f))))

  fraction_is : fraction_digits parts ≡ figures v f
  unfolding parts
  fraction_is = rw exponent_value (drop_at back (figures v f) e back_length)

  spells : Spells text parts
  unfolding text parts front back
  spells =
      record {
        mark = 99;
        mark_is = refl;
        text = refl;
        whole_digits_law = digits_figures max_digits (i / 10 ^ e);
        whole_written = omega (arith, length_figures max_digits (i / 10 ^ e));
        fraction_digits_law = of_append is_digit back (figures v f) (digits_figures e (i % 10 ^ e)) (digits_figures v f);
        exponent_digits = exponent_right;
      }

  front_length : length front ≡ max_digits
  unfolding front
  front_length = length_figures max_digits (i / 10 ^ e)

  short : length text ≤ max_bytes
  unfolding text parts
  short =
      let m = marked 46 (back ++ figures v f) in
      let x = marked 99 (exponent_text e) in
      omega (
        arith,
        length-append (sign_text negative) (front ++ (m ++ x)),
        length-append front (m ++ x),
        length-append m x,
        length-append back (figures v f),
        sign_length negative,
        front_length,
        back_length,
        length_figures v f,
        marked_length 46 (back ++ figures v f),
        marked_length 99 (exponent_text e),
        exponent_length,
        a.exponent,
        a.places,
      )

  not_zero : AfterZero parts → ⊥
  unfolding parts exponent_text
  not_zero z = tested (eqb e 0) none_case above_case
    where
      none_case : eqb e 0 ≡ true → ⊥
      none_case k =
          let z' : 0 < 0 = rw k at z.0 in
          omega arith

      above_case : eqb e 0 ≡ false → ⊥
      above_case k =
          let pos = eqb-false e 0 k in
          let one : 1 * 10 ^ e ≤ i = omega (arith, a.shifted (omega arith)) in
          omega (arith, (le-div_iff_mul-le {k = 10 ^ e} {x = 1} {y = i} (power_pos e)).1 one, front_value, z.1)

  past : Past15 text parts
  past =
      record {
        past =
            record {
              past =
                  record {
                    past = record { past = record { short = short; spells = spells }; exponent = rw shift_is a.exponent };
                    zero = not_zero;
                  };
              digits = within_digits (integer_digits parts) (integer_digits_law text parts spells) (rw (integer_is, whole_value) a.whole);
            };
        places = rw (fraction_is, length_figures v f) a.places;
      }

  number_is : number_of parts ≡ number_from negative e v i f
  unfolding parts
  number_is =
      from_parts text parts past
      ∙ same_four negative shift_is (ap length fraction_is ∙ length_figures v f) (ap value integer_is ∙ whole_value)
      (ap value fraction_is ∙ value_figures v f ∙ mod-eq_of_lt a.fraction)

  -- a text of at most 64 bytes that is read as the number with this sign and these operands
  pub has_text : (s : List ℕ) × ((length s ≤ max_bytes) × (read_number s ≡ Ok (number_from negative e v i f)))
  has_text = (text, (short, read_if text parts past ∙ ap Ok number_is))
