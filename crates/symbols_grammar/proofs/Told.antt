-- A body is as it must be exactly where the reader's test says so.
use mathlib.Core.Path.{◌≡◌, refl, sym, ap, subst, ◌∙◌}
use mathlib.Core.Bool.{true, false, not}
use mathlib.Core.List.{List, [], ◌++◌, append-nil}
use mathlib.Core.Logic.{◌↔◌}
use Prim.Native.Nat.{ℕ, ◌+◌, ◌/◌, ◌≤◌}
use native.Mathlib.Omega.{arith}
use borrow.Author.Tests.{eq-eqb, ne_eqb, eqb-true, eqb-false, lt-ltb, le-ltb, ltb-true, ltb-false}
use lib.Dec.{eqb, ltb}
use lib.ListN.{length, get_or, length-append}
use Rattle.decimal.specs.Digits.{is_digit}
use Rattle.decimal.proofs.Choices.{tested, not_both}
use Rattle.decimal.proofs.Runs.{nil_of_length}
use Rattle.utf8.specs.Utf8.{char_len, is_char}
use Rattle.utf8.specs.Scalar.{is_scalar, spell}
use Rattle.utf8.proofs.Scalars.{char_sound, char_complete, spell_some}
use Rattle.records.specs.Entries.{Entry}
use Rattle.records.specs.Spelled.{Among}
use Rattle.records.proofs.Told.{every_told, one_fails}
use Rattle.symbols.specs.Kinds.{name_of}
use Rattle.symbols.specs.Entries.{body_fits, is_minimum, entry_fits, bodies_fit}
use Rattle.symbols_grammar.specs.Record.{IsBody, IsMinimum, HasBody, text, minimum}

-- ---- "The body is one UTF-8 code point, not an ASCII digit."

-- the first byte of a code point is a digit where the code point is
above_digits : (b : ℕ) → 58 ≤ b → is_digit b ≡ false
above_digits b h = rw (le-ltb b 48 (omega arith), le-ltb b 58 h)

first_digit : (x : ℕ) → is_digit (get_or (spell x) 0 0) ≡ is_digit x
first_digit x =
    tested (ltb x 0x80) (λ k. rw k) (λ k₁.
    let d = sym (above_digits x (omega (arith, ltb-false x 0x80 k₁))) in
    tested (ltb x 0x800) (λ k. rw (k₁, k) (above_digits (0xC0 + x / 64) (omega arith) ∙ d)) (λ k₂.
    tested (ltb x 0x10000) (λ k. rw (k₁, k₂, k) (above_digits (0xE0 + x / 4096) (omega arith) ∙ d))
    (λ k. rw (k₁, k₂, k) (above_digits (0xF0 + x / 262144) (omega arith) ∙ d))))

-- a text that is one code point
record Char (s : List ℕ) : Type 0 where
  char : ℕ
  scalar : is_scalar char ≡ true
  text : s ≡ spell char

is_spelled : (s : List ℕ) → is_char s ≡ true → Char s
is_spelled s e = tested (eqb (length s) 0) (λ k. not_both e (rw k)) (λ k. by k (eqb-true (char_len s) (length s) (rw k at e)))
  where
    by : eqb (length s) 0 ≡ false → char_len s ≡ length s → Char s
    by k l =
        let w = char_sound s (λ z. eqb-false (length s) 0 k (sym l ∙ z)) in
        let n : length s ≡ length (spell w.char) + length w.behind = ap length w.text ∙ length-append (spell w.char) w.behind in
        let b : w.behind ≡ [] = nil_of_length w.behind (omega (arith, w.size)) in
        record { char = w.char; scalar = w.scalar; text = w.text ∙ (ap (λ (r : List ℕ). spell w.char ++ r) b ∙ append-nil (spell w.char)) }

one_char : (s : List ℕ) → char_len s ≡ length s → (length s ≡ 0 → ⊥) → is_char s ≡ true
one_char s l n = rw (ne_eqb (length s) 0 n) (eq-eqb (char_len s) (length s) l)

spelled_is : (x : ℕ) → is_scalar x ≡ true → is_char (spell x) ≡ true
spelled_is x e = one_char (spell x) (sym (ap char_len (append-nil (spell x))) ∙ char_complete x [] e) (spell_some x)

body_is : (b : List ℕ) → body_fits b ≡ true → IsBody b
body_is b f = tested (is_char b) (λ k. by (is_spelled b k) (rw k at f)) (λ k. not_both f (rw k))
  where
    by : Char b → not (is_digit (get_or b 0 0)) ≡ true → IsBody b
    by c n =
        let d : is_digit (get_or b 0 0) ≡ false = tested (is_digit (get_or b 0 0)) (λ k. not_both n (rw k)) (λ k. k) in
        record {
          scalar = c.char;
          scalar_is = c.scalar;
          spelled = c.text;
          no_digit = sym (first_digit c.char) ∙ (sym (ap (λ (t : List ℕ). is_digit (get_or t 0 0)) c.text) ∙ d);
        }

is_body : {b : List ℕ} → IsBody b → body_fits b ≡ true
is_body {b} w =
    let x = w.scalar in
    subst (λ (t : List ℕ). body_fits t ≡ true) (sym w.spelled) (fits (spell x) (spelled_is x w.scalar_is) (first_digit x ∙ w.no_digit))
  where
    fits : (s : List ℕ) → is_char s ≡ true → is_digit (get_or s 0 0) ≡ false → body_fits s ≡ true
    fits s k d = rw (k, d)

pub body_told : (b : List ℕ) → (body_fits b ≡ true) ↔ IsBody b
body_told b = (body_is b, is_body)

-- ---- kind 71's: "whose one-byte body is 01 to 04"

minimum_is : (b : List ℕ) → is_minimum (get_or b 0 0) ≡ true → IsMinimum b
minimum_is b f =
    tested (ltb (get_or b 0 0) 1) (λ k. not_both (rw k at f) refl)
    (λ k. record { least = ltb-false (get_or b 0 0) 1 k; most = omega (arith, ltb-true (get_or b 0 0) 5 (rw k at f)) })

is_minimum_law : {b : List ℕ} → IsMinimum b → is_minimum (get_or b 0 0) ≡ true
is_minimum_law {b} w = rw (le-ltb (get_or b 0 0) 1 w.least, lt-ltb (get_or b 0 0) 5 (omega (arith, w.most)))

-- ---- an entry's, by its symbol

has_body : (e : Entry) → entry_fits e ≡ true → HasBody e
has_body e f =
    tested (eqb (name_of e.kind) 7) (λ k. minimum (eqb-true (name_of e.kind) 7 k) (minimum_is e.body (rw k at f)))
    (λ k. text (eqb-false (name_of e.kind) 7 k) (body_is e.body (rw k at f)))

fits_body : {e : Entry} → HasBody e → entry_fits e ≡ true
fits_body {e} (text n w) = rw (ne_eqb (name_of e.kind) 7 n) (is_body w)
fits_body {e} (minimum o w) = rw (eq-eqb (name_of e.kind) 7 o) (is_minimum_law w)

-- ---- all bodies

pub bodies_told : (es : List Entry) → (bodies_fit es ≡ true) ↔ ((e : Entry) → Among e es → HasBody e)
bodies_told es =
    let t = every_told entry_fits es in
    (λ k e a. has_body e (t.0 k e a), λ f. t.1 (λ e a. fits_body (f e a)))

-- an entry whose body is not as it must be
pub record Unfit (es : List Entry) : Type 0 where
  pub entry : Entry
  pub among : Among entry es
  pub no_body : HasBody entry → ⊥

pub unfit_entry : (es : List Entry) → bodies_fit es ≡ false → Unfit es
unfit_entry es f =
    let r = one_fails entry_fits es f in
    record { entry = r.entry; among = r.among; no_body = λ w. not_both (fits_body w) r.fails }
