-- The reader is sound and complete for the grammar of number texts.
use mathlib.Core.Path.{◌≡◌, refl, sym, ap, ◌∙◌, subst}
use mathlib.Core.Bool.{Bool, true, false}
use mathlib.Core.List.{List, [], ◌∷◌, ◌++◌}
use mathlib.Core.Option.{Option, none, some}
use Prim.Native.Nat.{ℕ, suc, ◌≤◌, ◌<◌}
use native.Mathlib.Omega.{arith}
use native.Mathlib.Nat.{add-zero}
use lib.Dec.{eqb, eqb-suc-zero}
use borrow.Author.Tests.{eqb-true, eqb-false, ne_eqb}
use lib.ListN.{length, take, drop, take-append-drop}
use lib.Seq.{length-take-le, take_at, drop_at}
use Rattle.decimal.specs.Choice.{both}
use Rattle.decimal.specs.Digits.{is_digit, begins, run, AllDigits}
use Rattle.decimal.proofs.Choices.{choice, tested, not_both, never, both_true}
use Rattle.decimal.proofs.Runs.{run_le, run_append, of_run, of_head, digit_bounds}
use Rattle.number.specs.Grammar.{Parts, Spells, is_mark, is_exponent, sign_text, marked}
use Rattle.number.specs.Reading.{parts_from, exponent_at, fraction_at, point_at, whole_at, parts_of}

-- ---- sound: what is read of a text are its parts

-- what was read, if anything, are the parts of s
abbrev Right : List ℕ → Option Parts → Type 0
Right s none = Unit {0}
Right s (some p) = Spells s p

-- a text that begins with b
begins_cons : (b : ℕ) (s : List ℕ) → begins b s ≡ true → s ≡ b ∷ drop 1 s
begins_cons b [] h = not_both h refl
begins_cons b (x ∷ s) h =
    let e : eqb x b ≡ true = rw (eqb-suc-zero (length s)) at h in
    rw (eqb-true x b e)

marked_some : (m : ℕ) (s : List ℕ) → 0 < length s → marked m s ≡ m ∷ s
marked_some m [] h = absurd (omega arith)
marked_some m (b ∷ s) h = refl

run_some : (s : List ℕ) → eqb (run s) 0 ≡ false → 0 < length (take (run s) s)
run_some s h =
    let k = eqb-false (run s) 0 h in
    rw (length-take-le (run s) s (run_le is_digit s)) (omega arith)

exponent_some : (s : List ℕ) → is_exponent s ≡ true → 0 < length s
exponent_some [] h = not_both h refl
exponent_some (b ∷ s) h = omega arith

exponent_right : (negative : Bool) (whole fraction s : List ℕ) → AllDigits whole → 0 < length whole → AllDigits fraction
    → Right (sign_text negative ++ (whole ++ (marked 46 fraction ++ s))) (exponent_at negative whole fraction s)
exponent_right negative whole fraction [] dw lw df =
    record {
      mark = 99;
      mark_is = refl;
      text = refl;
      whole_digits_law = dw;
      whole_written = lw;
      fraction_digits_law = df;
      exponent_digits = λ h. absurd (omega arith);
    }
exponent_right negative whole fraction (b ∷ s) dw lw df =
    rw (eqb-suc-zero (length s)) (choice (Right (sign_text negative ++ (whole ++ (marked 46 fraction ++ (b ∷ s))))) (both (is_mark b) (is_exponent s)) told (λ _. tt))
  where
    told : both (is_mark b) (is_exponent s) ≡ true → Spells (sign_text negative ++ (whole ++ (marked 46 fraction ++ (b ∷ s)))) (parts_from negative whole fraction s)
    told h =
        let x = (both_true (is_mark b) (is_exponent s) h).1 in
        record {
          mark = b;
          mark_is = (both_true (is_mark b) (is_exponent s) h).0;
          text = rw (marked_some b s (exponent_some s x));
          whole_digits_law = dw;
          whole_written = lw;
          fraction_digits_law = df;
          exponent_digits = λ _. x;
        }

fraction_right : (negative : Bool) (whole s : List ℕ) → AllDigits whole → 0 < length whole
    → Right (sign_text negative ++ (whole ++ (46 ∷ s))) (fraction_at negative whole s)
fraction_right negative whole s dw lw =
    choice (Right (sign_text negative ++ (whole ++ (46 ∷ s)))) (eqb (run s) 0) (λ _. tt) told
  where
    told : eqb (run s) 0 ≡ false
        → Right (sign_text negative ++ (whole ++ (46 ∷ s))) (exponent_at negative whole (take (run s) s) (drop (run s) s))
    told h =
        let r = exponent_right negative whole (take (run s) s) (drop (run s) s) dw lw (of_run is_digit s) in
        let e : marked 46 (take (run s) s) ++ drop (run s) s ≡ 46 ∷ s =
        rw (marked_some 46 (take (run s) s) (run_some s h)) (ap (λ (l : List ℕ). 46 ∷ l) (take-append-drop (run s) s)) in
        rw e at r

point_right : (negative : Bool) (whole s : List ℕ) → AllDigits whole → 0 < length whole
    → Right (sign_text negative ++ (whole ++ s)) (point_at negative whole s)
point_right negative whole s dw lw =
    choice (Right (sign_text negative ++ (whole ++ s))) (begins 46 s)
    (λ h. subst (λ (l : List ℕ). Right (sign_text negative ++ (whole ++ l)) (fraction_at negative whole (drop 1 s))) (sym (begins_cons 46 s h)) (fraction_right negative whole (drop 1 s) dw lw))
    (λ _. exponent_right negative whole [] s dw lw refl)

whole_right : (negative : Bool) (s : List ℕ) → Right (sign_text negative ++ s) (whole_at negative s)
whole_right negative s =
    choice (Right (sign_text negative ++ s)) (eqb (run s) 0) (λ _. tt)
    (λ h. subst (λ (l : List ℕ). Right (sign_text negative ++ l) (point_at negative (take (run s) s) (drop (run s) s))) (take-append-drop (run s) s) (point_right negative (take (run s) s) (drop (run s) s) (of_run is_digit s) (run_some s h)))

right : (s : List ℕ) → Right s (parts_of s)
right s =
    choice (Right s) (begins 45 s)
    (λ h. subst (λ (l : List ℕ). Right l (whole_at true (drop 1 s))) (sym (begins_cons 45 s h)) (whole_right true (drop 1 s)))
    (λ _. whole_right false s)

pub sound : (s : List ℕ) (p : Parts) → parts_of s ≡ some p → Spells s p
sound s p e = subst (Right s) e (right s)

-- ---- complete: the parts of a text are what is read of it

-- a byte that is no digit and no point
record Mark (m : ℕ) : Type 0 where
  pub marks : is_mark m ≡ true
  pub no_digit : is_digit m ≡ false
  pub no_point : eqb m 46 ≡ false

mark_of : (m : ℕ) → is_mark m ≡ true → Mark m
mark_of m h =
    tested (eqb m 99) (λ e. subst Mark (sym (eqb-true m 99 e)) (record { marks = refl; no_digit = refl; no_point = refl }))
    (λ e.
    let k : eqb m 101 ≡ true = rw e at h in
    subst Mark (sym (eqb-true m 101 k)) (record { marks = refl; no_digit = refl; no_point = refl }))

run_marked : (m : ℕ) (s : List ℕ) → is_digit m ≡ false → run (marked m s) ≡ 0
run_marked m [] h = refl
run_marked m (b ∷ s) h = rw h

begins_marked : (m : ℕ) (s : List ℕ) → eqb m 46 ≡ false → begins 46 (marked m s) ≡ false
begins_marked m [] h = refl
begins_marked m (b ∷ s) h = rw (eqb-suc-zero (suc (length s)), h)

-- digits, then a byte that is none or nothing
run_before : (s t : List ℕ) → AllDigits s → run t ≡ 0 → run (s ++ t) ≡ length s
run_before s t d h = run_append is_digit s t d ∙ rw h (add-zero (length s))

some_run : (s : List ℕ) → 0 < length s → eqb (length s) 0 ≡ false
some_run s h = ne_eqb (length s) 0 (λ e. no e)
  where
    no : length s ≡ 0 → ⊥
    no e = omega arith

exponent_complete : (negative : Bool) (whole fraction exponent : List ℕ) (m : ℕ) → Mark m → (0 < length exponent → is_exponent exponent ≡ true)
    → exponent_at negative whole fraction (marked m exponent) ≡ some (parts_from negative whole fraction exponent)
exponent_complete negative whole fraction [] m k x = refl
exponent_complete negative whole fraction (b ∷ s) m k x =
    rw (eqb-suc-zero (suc (length s)), k.marks, x (omega arith))

point_complete : (negative : Bool) (whole fraction exponent : List ℕ) (m : ℕ) → Mark m → AllDigits fraction → (0 < length exponent → is_exponent exponent ≡ true)
    → point_at negative whole (marked 46 fraction ++ marked m exponent) ≡ some (parts_from negative whole fraction exponent)
point_complete negative whole [] exponent m k d x =
    rw (begins_marked m exponent k.no_point) (exponent_complete negative whole [] exponent m k x)
point_complete negative whole (b ∷ s) exponent m k d x =
    let f = b ∷ s in
    let t = marked m exponent in
    let r : run (f ++ t) ≡ length f = run_before f t d (run_marked m exponent k.no_digit) in
    let ft : take (length f) (f ++ t) ≡ f = take_at f t (length f) refl in
    let fd : drop (length f) (f ++ t) ≡ t = drop_at f t (length f) refl in
    simp (eqb-suc-zero (length (f ++ t))) (behind f t r ft fd (omega arith) (exponent_complete negative whole f exponent m k x))
  where
    behind : (f t : List ℕ) → run (f ++ t) ≡ length f → take (length f) (f ++ t) ≡ f → drop (length f) (f ++ t) ≡ t → 0 < length f
        → exponent_at negative whole f t ≡ some (parts_from negative whole f exponent)
        → fraction_at negative whole (f ++ t) ≡ some (parts_from negative whole f exponent)
    behind f t r ft fd l e = rw (r, some_run f l, ft, fd) e

whole_complete : (negative : Bool) (whole fraction exponent : List ℕ) (m : ℕ) → Mark m → AllDigits whole → 0 < length whole → AllDigits fraction
    → (0 < length exponent → is_exponent exponent ≡ true)
    → whole_at negative (whole ++ (marked 46 fraction ++ marked m exponent)) ≡ some (parts_from negative whole fraction exponent)
whole_complete negative whole fraction exponent m k dw lw df x =
    let t = marked 46 fraction ++ marked m exponent in
    let r : run (whole ++ t) ≡ length whole = run_before whole t dw (run_tail fraction) in
    rw (r, some_run whole lw, take_at whole t (length whole) refl, drop_at whole t (length whole) refl)
    (point_complete negative whole fraction exponent m k df x)
  where
    run_tail : (f : List ℕ) → run (marked 46 f ++ marked m exponent) ≡ 0
    run_tail [] = run_marked m exponent k.no_digit
    run_tail (b ∷ s) = refl

-- a text that begins with a digit does not begin with `-`
digits_begin : (s t : List ℕ) → AllDigits s → 0 < length s → begins 45 (s ++ t) ≡ false
digits_begin [] t d h = absurd (omega arith)
digits_begin (b ∷ s) t d h =
    let k = digit_bounds b (of_head is_digit b s d).0 in
    rw (eqb-suc-zero (length (s ++ t)), ne_eqb b 45 (λ e. no e k.0))
  where
    no : b ≡ 45 → 48 ≤ b → ⊥
    no e l = omega arith

pub complete : (s : List ℕ) (p : Parts) → Spells s p → parts_of s ≡ some p
complete s p h = ap parts_of h.text ∙ signed p.negative
  where
    t : List ℕ
    t = p.whole ++ (marked 46 p.fraction ++ marked h.mark p.exponent)

    signed : (negative : Bool) → parts_of (sign_text negative ++ (p.whole ++ (marked 46 p.fraction ++ marked h.mark p.exponent))) ≡ some (parts_from negative p.whole p.fraction p.exponent)
    signed true =
        rw (eqb-suc-zero (length (p.whole ++ (marked 46 p.fraction ++ marked h.mark p.exponent))))
        (whole_complete true p.whole p.fraction p.exponent h.mark (mark_of h.mark h.mark_is) h.whole_digits_law h.whole_written h.fraction_digits_law h.exponent_digits)
    signed false =
        rw (digits_begin p.whole (marked 46 p.fraction ++ marked h.mark p.exponent) h.whole_digits_law h.whole_written)
        (whole_complete false p.whole p.fraction p.exponent h.mark (mark_of h.mark h.mark_is) h.whole_digits_law h.whole_written h.fraction_digits_law h.exponent_digits)

-- a text that is read as nothing has no parts
pub none_spells : (s : List ℕ) → parts_of s ≡ none → (p : Parts) → Spells s p → ⊥
none_spells s e p h =
    let q = complete s p h in
    never (cc)
