-- Each of 10 to 15 is given exactly when its row says, and a number is read exactly when none is.
use Rattle.std.specs.Prelude.{Ok}
use mathlib.Core.Path.{◌≡◌, refl, ap, ◌∙◌, subst}
use mathlib.Core.Bool.{true, false}
use mathlib.Core.List.{List}
use mathlib.Core.Logic.{◌↔◌}
use mathlib.Core.Option.{Option, none, some}
use Prim.Native.Nat.{ℕ, ◌<◌}
use native.Mathlib.Omega.{arith}
use lib.Dec.{ltb, eqb}
use borrow.Author.Tests.{ltb-true, ltb-false, eqb-true, eqb-false, lt-ltb, le-ltb, eq-eqb, ne_eqb}
use lib.ListN.{length}
use Rattle.decimal.specs.Digits.{value}
use Rattle.decimal.proofs.Choices.{tested, not_both, never}
use Rattle.answer.specs.declared.NumberRow.{NumberRow}
use Rattle.answer.specs.declared.NumberRow.TheVariants.{NumberTooLong, NotANumber, ExponentTooLarge, ExponentAfterZero, IntegerTooLong, FractionTooLong}
use Rattle.number.specs.Limits.{max_bytes, max_exponent, max_digits, max_places}
use Rattle.number.specs.Grammar.{Parts}
use Rattle.number.specs.Reading.{parts_of, shift_of, number_of, after_zero, significant, refuse, judge, judged, read_number}
use Rattle.number.specs.Table.{AfterZero, integer_digits, fraction_digits, Past11, Past12, Past13, Past14, Past15, Row}
use Rattle.number.specs.declared.Number.{Number}
use Rattle.number.proofs.Grammatical.{sound, complete, none_spells}

-- 13's test says what its row says
zero_test : (p : Parts) → after_zero p.whole p.exponent ≡ true → AfterZero p
zero_test p h = tested (eqb (length p.exponent) 0) empty written
  where
    empty : eqb (length p.exponent) 0 ≡ true → AfterZero p
    empty e = not_both (rw e at h) refl

    written : eqb (length p.exponent) 0 ≡ false → AfterZero p
    written e =
        let k = eqb-false (length p.exponent) 0 e in
        (omega arith, eqb-true (value p.whole) 0 (rw e at h))

zero_true : (p : Parts) → AfterZero p → after_zero p.whole p.exponent ≡ true
zero_true p h = rw (ne_eqb (length p.exponent) 0 (λ e. no e h.0), eq-eqb (value p.whole) 0 h.1)
  where
    no : length p.exponent ≡ 0 → 0 < length p.exponent → ⊥
    no e k = omega arith

zero_false : (p : Parts) → (AfterZero p → ⊥) → after_zero p.whole p.exponent ≡ false
zero_false p h = tested (after_zero p.whole p.exponent) (λ e. absurd (h (zero_test p e))) (λ e. e)

-- ---- if a row's condition holds, it is given

judged_as : (s : List ℕ) (p : Parts) → Past11 s p → read_number s ≡ judge p
judged_as s p h = rw (le-ltb max_bytes (length s) h.short, complete s p h.spells)

past_12 : (s : List ℕ) (p : Parts) → Past12 s p → ltb max_exponent (shift_of p) ≡ false
past_12 s p h = le-ltb max_exponent (shift_of p) h.exponent

past_13 : (s : List ℕ) (p : Parts) → Past13 s p → after_zero p.whole p.exponent ≡ false
past_13 s p h = zero_false p h.zero

past_14 : (s : List ℕ) (p : Parts) → Past14 s p → ltb max_digits (significant (integer_digits p)) ≡ false
past_14 s p h = le-ltb max_digits (significant (integer_digits p)) h.digits

pub given_if : (row : NumberRow) (s : List ℕ) → Row row s → read_number s ≡ refuse row
given_if NumberTooLong s h = rw (lt-ltb max_bytes (length s) h)
given_if NotANumber s h = rw (le-ltb max_bytes (length s) h.0) (nothing (parts_of s) refl)
  where
    nothing : (o : Option Parts) → parts_of s ≡ o → judged o ≡ refuse NotANumber
    nothing none e = refl
    nothing (some p) e = absurd (h.1 p (sound s p e))
given_if ExponentTooLarge s (p, h) = judged_as s p h.0 ∙ rw (lt-ltb max_exponent (shift_of p) h.1)
given_if ExponentAfterZero s (p, h) = judged_as s p h.0.past ∙ rw (past_12 s p h.0, zero_true p h.1)
given_if IntegerTooLong s (p, h) =
    judged_as s p h.0.past.past
    ∙ rw (past_12 s p h.0.past, past_13 s p h.0, lt-ltb max_digits (significant (integer_digits p)) h.1)
given_if FractionTooLong s (p, h) =
    judged_as s p h.0.past.past.past
    ∙ rw (past_12 s p h.0.past.past, past_13 s p h.0.past, past_14 s p h.0, lt-ltb max_places (length (fraction_digits p)) h.1)

pub read_if : (s : List ℕ) (p : Parts) → Past15 s p → read_number s ≡ Ok (number_of p)
read_if s p h =
    judged_as s p h.past.past.past.past
    ∙ rw (past_12 s p h.past.past.past, past_13 s p h.past.past, past_14 s p h.past, le-ltb max_places (length (fraction_digits p)) h.places)

-- ---- one of them always holds

pub data Told (s : List ℕ) : Type 0 where
  row : (r : NumberRow) → Row r s → Told s
  number : (p : Parts) → Past15 s p → Told s

told_parts : (s : List ℕ) (p : Parts) → Past11 s p → Told s
told_parts s p h = tested (ltb max_exponent (shift_of p)) (λ e. row ExponentTooLarge (p, (h, ltb-true max_exponent (shift_of p) e))) twelve
  where
    twelve : ltb max_exponent (shift_of p) ≡ false → Told s
    twelve e = tested (after_zero p.whole p.exponent) (λ z. row ExponentAfterZero (p, (past, zero_test p z))) thirteen
      where
        past : Past12 s p
        past = record { past = h; exponent = ltb-false max_exponent (shift_of p) e }

        thirteen : after_zero p.whole p.exponent ≡ false → Told s
        thirteen z = tested (ltb max_digits (significant (integer_digits p))) (λ d. row IntegerTooLong (p, (past3, ltb-true max_digits (significant (integer_digits p)) d))) fourteen
          where
            past3 : Past13 s p
            past3 = record { past = past; zero = λ a. not_both (zero_true p a) z }

            fourteen : ltb max_digits (significant (integer_digits p)) ≡ false → Told s
            fourteen d = tested (ltb max_places (length (fraction_digits p))) (λ v. row FractionTooLong (p, (past4, ltb-true max_places (length (fraction_digits p)) v))) fifteen
              where
                past4 : Past14 s p
                past4 = record { past = past3; digits = ltb-false max_digits (significant (integer_digits p)) d }

                fifteen : ltb max_places (length (fraction_digits p)) ≡ false → Told s
                fifteen v = number p (record { past = past4; places = ltb-false max_places (length (fraction_digits p)) v })

pub told : (s : List ℕ) → Told s
told s = tested (ltb max_bytes (length s)) (λ e. row NumberTooLong (ltb-true max_bytes (length s) e)) short
  where
    short : ltb max_bytes (length s) ≡ false → Told s
    short e = split (parts_of s) refl
      where
        split : (o : Option Parts) → parts_of s ≡ o → Told s
        split none q = row NotANumber (ltb-false max_bytes (length s) e, none_spells s q)
        split (some p) q = told_parts s p (record { short = ltb-false max_bytes (length s) e; spells = sound s p q })

-- ---- so each is given exactly when its row says

pub given : (r : NumberRow) (s : List ℕ) → (read_number s ≡ refuse r) ↔ Row r s
given r s = (only (told s), given_if r s)
  where
    only : Told s → read_number s ≡ refuse r → Row r s
    only (row q h) e =
        let k = given_if q s h in
        let same : q ≡ r = cc in
        subst (λ (x : NumberRow). Row x s) same h
    only (number p h) e =
        let k = read_if s p h in
        never (cc)

-- a number is read exactly when the text is one's and no row is given, and it is the number of the text's parts
pub reads : (s : List ℕ) (n : Number) → (read_number s ≡ Ok n) ↔ ((p : Parts) × (Past15 s p × (number_of p ≡ n)))
reads s n = (only (told s), λ h. read_if s h.0 h.1.0 ∙ ap Ok h.1.1)
  where
    only : Told s → read_number s ≡ Ok n → (p : Parts) × (Past15 s p × (number_of p ≡ n))
    only (row q h) e =
        let k = given_if q s h in
        never (cc)
    only (number p h) e =
        let k = read_if s p h in
        let same : number_of p ≡ n = cc in
        (p, (h, same))
