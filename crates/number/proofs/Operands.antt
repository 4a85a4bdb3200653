-- Laws of the operands: w and t, the sign, leading zeros, `c` and `e`.
use Rattle.answer.specs.declared.Refusal.{Refusal}
use mathlib.Core.Path.{◌≡◌, refl, sym, ap, ◌∙◌, subst}
use mathlib.Core.Bool.{Bool, true, false}
use mathlib.Core.List.{List, [], ◌∷◌, ◌++◌}
use mathlib.Core.Logic.{⊎_elim}
use mathlib.Core.Option.{Option}
use Prim.Native.Nat.{ℕ, zero, suc, ◌+◌, ◌*◌, ◌-◌, ◌%◌, ◌^◌, ◌≤◌, ◌<◌}
use native.Mathlib.Omega.{arith}
use native.Mathlib.Nat.{suc-sub-suc, mod-eq_of_lt, mul-le-mul_right, mul_assoc, eq_of_mul-eq-mul_right, pow-suc}
use lib.Pow.{pow-add}
use lib.Dec.{ltb, eqb, eqb-suc-zero}
use borrow.Author.Tests.{le-ltb, ltb-true, ltb-false, eqb-true, eqb-false, ne_eqb}
use lib.ListN.{length, get_or, take, drop}
use Rattle.std.specs.Prelude.{Ok, Result, if◌then◌else◌}
use Rattle.decimal.specs.Choice.{both}
use Rattle.decimal.specs.Digits.{is_digit, begins, run, value, lead, trim, figures, AllDigits}
use Rattle.decimal.proofs.Choices.{choices, tested, not_both, both_true}
use Rattle.decimal.proofs.Runs.{of_head, of_take}
use Rattle.decimal.proofs.Values.{power_pos, value_lt}
use Rattle.decimal.proofs.Zeros.{value_trim, trim_front, trim_le, trim_last}
use Rattle.decimal.proofs.Figured.{length_figures, digits_figures, value_figures}
use Rattle.answer.specs.declared.NumberRow.TheVariants.{NumberTooLong}
use Rattle.number.specs.Limits.{max_bytes, max_exponent, max_digits, max_places}
use Rattle.number.specs.Grammar.{Parts, is_mark, is_exponent, sign_text}
use Rattle.number.specs.Reading.{parts_from, exponent_at, fraction_at, point_at, whole_at, parts_of, after_zero, significant, integer_at, visible_at, refuse, judge, judged, read_number}
use Rattle.number.specs.Admitted.{w_of, t_of, Trimmed}
use Rattle.number.specs.Alike.{negative, negated}
use Rattle.number.specs.declared.Number.{Number}
use Rattle.number.proofs.Admissible.{admitted, four_numbers}

-- ---- w and t

-- of every v and f, whatever the limits
pub trimmed : (v f : ℕ) → f < 10 ^ v → Trimmed v f (w_of v f) (t_of v f)
trimmed v f h =
    record {
      places = omega (arith, trim_le s, length_figures v f);
      room = value_lt (trim s) (rw (trim_front s) (of_take is_digit (length (trim s)) s (digits_figures v f)));
      scaled = scaled;
      last = λ n z. ⊎_elim (λ e. n (scaled ∙ rw e (omega arith))) (λ k. k z) (trim_last 0 s (digits_figures v f));
      none = λ z. ⊎_elim (λ e. (rw e, rw e)) (λ k. absurd (k (zero_value z))) (trim_last 0 s (digits_figures v f));
    }
  where
    s : List ℕ
    s = figures v f

    scaled : f ≡ value (trim (figures v f)) * 10 ^ (v - length (trim (figures v f)))
    scaled = sym (value_figures v f ∙ mod-eq_of_lt h) ∙ (rw (length_figures v f) at (value_trim 0 (figures v f)))

    zero_value : f ≡ 0 → value (trim (figures v f)) % 10 ≡ 0
    zero_value z = ap (λ (k : ℕ). k % 10) (no_value z)
      where
        no_value : f ≡ 0 → value (trim (figures v f)) ≡ 0
        no_value z = omega (arith, scaled, mul-le-mul_right (value (trim (figures v f))) (power_pos (v - length (trim (figures v f)))))

-- no other w and t are so
pub trimmed_only : (v f w t x y : ℕ) → Trimmed v f w t → Trimmed v f x y → (w ≡ x) × (t ≡ y)
trimmed_only v f w t x y p q =
    tested (eqb f 0)
    (λ z.
    let a = p.none (eqb-true f 0 z) in
    let b = q.none (eqb-true f 0 z) in
    (a.0 ∙ sym b.0, a.1 ∙ sym b.1))
    (λ z.
    let n = eqb-false f 0 z in
    let e : w ≡ x = omega (arith, no_more p q n, no_more q p n) in
    (e, eq_of_mul-eq-mul_right (10 ^ (v - w)) (power_pos (v - w)) t y (sym p.scaled ∙ (q.scaled ∙ ap (λ (k : ℕ). y * 10 ^ (v - k)) (sym e)))))
  where
    -- more places would end in a zero
    no_more : {w t x y : ℕ} → Trimmed v f w t → Trimmed v f x y → (f ≡ 0 → ⊥) → x ≤ w
    no_more {w} {t} {x} {y} p q n =
        tested (ltb w x)
        (λ l.
        let k = x - w - 1 in
        let h = ltb-true w x l in
        let s : v - w ≡ suc k + (v - x) = omega (arith, q.places) in
        let m : t * 10 ^ suc k ≡ y =
        eq_of_mul-eq-mul_right (10 ^ (v - x)) (power_pos (v - x)) (t * 10 ^ suc k) y
        (mul_assoc t (10 ^ suc k) (10 ^ (v - x)) ∙ (ap (λ (j : ℕ). t * j) (sym (pow-add 10 (suc k) (v - x))) ∙ (ap (λ (j : ℕ). t * 10 ^ j) (sym s) ∙ (sym p.scaled ∙ q.scaled)))) in
        let d : t * 10 ^ suc k ≡ 10 * (t * 10 ^ k) = ap (λ (j : ℕ). t * j) (pow-suc 10 k) ∙ omega arith in
        absurd (q.last n (ap (λ (j : ℕ). j % 10) (sym m ∙ d) ∙ omega arith)))
        (λ l. ltb-false w x l)

pub w_and_t : (s : List ℕ) (n : Number) → read_number s ≡ Ok n → Trimmed n.v.0 n.f.0 n.w.0 n.t.0
w_and_t s n e =
    let a = admitted s n e in
    let q = four_numbers s n e in
    let w : w_of n.v.0 n.f.0 ≡ n.w.0 = sym (ap (λ (m : Number). m.w.0) q) in
    let t : t_of n.v.0 n.f.0 ≡ n.t.0 = sym (ap (λ (m : Number). m.t.0) q) in
    carried w t (trimmed n.v.0 n.f.0 a.fraction)
  where
    carried : {v f w w' t t' : ℕ} → w ≡ w' → t ≡ t' → Trimmed v f w t → Trimmed v f w' t'
    carried {v} {f} {w} {w'} {t} {t'} p q h =
        subst (λ (x : ℕ). Trimmed v f w' x) q (subst (λ (x : ℕ). Trimmed v f x t) p h)

-- ---- the sign

-- what is read with the sign is what is read without it, negated
abbrev Signed : Result Number Refusal → Result Number Refusal → Type 0
Signed x y = x ≡ negated y

judge_signed : (whole fraction exponent : List ℕ) → Signed (judge (parts_from true whole fraction exponent)) (judge (parts_from false whole fraction exponent))
judge_signed whole fraction exponent =
    choices Signed (ltb max_exponent (value exponent)) (λ _. refl)
    (λ _. choices Signed (after_zero whole exponent) (λ _. refl)
    (λ _. choices Signed (ltb max_digits (significant (integer_at whole fraction (value exponent)))) (λ _. refl)
    (λ _. choices Signed (ltb max_places (length (visible_at fraction (value exponent)))) (λ _. refl) (λ _. refl))))

abbrev Both : Option Parts → Option Parts → Type 0
Both x y = Signed (judged x) (judged y)

exponent_signed : (whole fraction s : List ℕ) → Both (exponent_at true whole fraction s) (exponent_at false whole fraction s)
exponent_signed whole fraction s =
    choices Both (eqb (length s) 0) (λ _. judge_signed whole fraction [])
    (λ _. choices Both (both (is_mark (get_or s 0 0)) (is_exponent (drop 1 s))) (λ _. judge_signed whole fraction (drop 1 s)) (λ _. refl))

point_signed : (whole s : List ℕ) → Both (point_at true whole s) (point_at false whole s)
point_signed whole s =
    choices Both (begins 46 s)
    (λ _. choices Both (eqb (run (drop 1 s)) 0) (λ _. refl) (λ _. exponent_signed whole (take (run (drop 1 s)) (drop 1 s)) (drop (run (drop 1 s)) (drop 1 s))))
    (λ _. exponent_signed whole [] s)

whole_signed : (s : List ℕ) → Both (whole_at true s) (whole_at false s)
whole_signed s = choices Both (eqb (run s) 0) (λ _. refl) (λ _. point_signed (take (run s) s) (drop (run s) s))

-- a `-` in front changes the sign alone: the same refusal, or the same operands
pub sign_alone : (s : List ℕ) → length s < max_bytes → begins 45 s ≡ false → read_number (45 ∷ s) ≡ negated (read_number s)
sign_alone s h b =
    rw (le-ltb max_bytes (suc (length s)) h, le-ltb max_bytes (length s) (omega arith), eqb-suc-zero (length s), b) (whole_signed s)

-- ---- leading zeros

abbrev Alike : Option Parts → Option Parts → Type 0
Alike x y = judged x ≡ judged y

judge_zero : (negative : Bool) (whole fraction exponent : List ℕ) → judge (parts_from negative (48 ∷ whole) fraction exponent) ≡ judge (parts_from negative whole fraction exponent)
judge_zero negative whole fraction exponent =
    let d = integer_at whole fraction (value exponent) in
    rw (suc-sub-suc (length d) (lead d))

exponent_zero : (negative : Bool) (whole fraction s : List ℕ) → Alike (exponent_at negative (48 ∷ whole) fraction s) (exponent_at negative whole fraction s)
exponent_zero negative whole fraction s =
    choices Alike (eqb (length s) 0) (λ _. judge_zero negative whole fraction [])
    (λ _. choices Alike (both (is_mark (get_or s 0 0)) (is_exponent (drop 1 s))) (λ _. judge_zero negative whole fraction (drop 1 s)) (λ _. refl))

point_zero : (negative : Bool) (whole s : List ℕ) → Alike (point_at negative (48 ∷ whole) s) (point_at negative whole s)
point_zero negative whole s =
    choices Alike (begins 46 s)
    (λ _. choices Alike (eqb (run (drop 1 s)) 0) (λ _. refl) (λ _. exponent_zero negative whole (take (run (drop 1 s)) (drop 1 s)) (drop (run (drop 1 s)) (drop 1 s))))
    (λ _. exponent_zero negative whole [] s)

whole_zero : (negative : Bool) (s : List ℕ) → eqb (run s) 0 ≡ false → Alike (whole_at negative (48 ∷ s)) (whole_at negative s)
whole_zero negative s h = rw (eqb-suc-zero (run s), h) (point_zero negative (take (run s) s) (drop (run s) s))

-- a text that begins with a digit begins with no `-`
digit_first : (s : List ℕ) → eqb (run s) 0 ≡ false → begins 45 s ≡ false
digit_first [] h = refl
digit_first (b ∷ s) h = rw (eqb-suc-zero (length s)) (ne_eqb b 45 (λ e. no e))
  where
    no : b ≡ 45 → ⊥
    no e =
        let k : eqb 0 0 ≡ false = subst (λ (x : ℕ). eqb (run (x ∷ s)) 0 ≡ false) e h in
        eqb-false 0 0 k refl

-- a zero more in front of the integer digits changes nothing, the limit of bytes aside
pub leading_zero : (negative : Bool) (s : List ℕ) → eqb (run s) 0 ≡ false → length (sign_text negative ++ (48 ∷ s)) ≤ max_bytes
    → read_number (sign_text negative ++ (48 ∷ s)) ≡ read_number (sign_text negative ++ s)
leading_zero true s r h =
    let k : suc (suc (length s)) ≤ max_bytes = h in
    rw (le-ltb max_bytes (suc (suc (length s))) k, le-ltb max_bytes (suc (length s)) (omega arith), eqb-suc-zero (suc (length s)), eqb-suc-zero (length s))
    (whole_zero true s r)
leading_zero false s r h =
    let k : suc (length s) ≤ max_bytes = h in
    rw (le-ltb max_bytes (suc (length s)) k, le-ltb max_bytes (length s) (omega arith), eqb-suc-zero (length s), digit_first s r)
    (whole_zero false s r)

-- ---- `c` and `e`

-- every `e` of a text as `c`
abbrev canon : ℕ → ℕ
canon b = if eqb b 101 then 99 else b

abbrev canonical : List ℕ → List ℕ
canonical [] = []
canonical (b ∷ s) = canon b ∷ canonical s

-- a test that says the same of `c` and `e` does not see the change
unseen : {A : Type 0} (g : ℕ → A) → g 99 ≡ g 101 → (b : ℕ) → g (canon b) ≡ g b
unseen g same b = tested (eqb b 101) (λ e. rw e (same ∙ ap g (sym (eqb-true b 101 e)))) (λ e. rw e)

canonical_length : (s : List ℕ) → length (canonical s) ≡ length s
canonical_length [] = refl
canonical_length (b ∷ s) = ap suc (canonical_length s)

canonical_head : {A : Type 0} (g : ℕ → A) → g 99 ≡ g 101 → (s : List ℕ) → g (get_or (canonical s) 0 0) ≡ g (get_or s 0 0)
canonical_head g same [] = refl
canonical_head g same (b ∷ s) = unseen g same b

canonical_drop : (k : ℕ) (s : List ℕ) → drop k (canonical s) ≡ canonical (drop k s)
canonical_drop zero s = refl
canonical_drop (suc k) [] = refl
canonical_drop (suc k) (b ∷ s) = canonical_drop k s

canonical_run : (s : List ℕ) → run (canonical s) ≡ run s
canonical_run [] = refl
canonical_run (b ∷ s) = rw (unseen is_digit refl b, canonical_run s)

-- digits are no marks
digit_canon : (b : ℕ) → is_digit b ≡ true → canon b ≡ b
digit_canon b h = rw (ne_eqb b 101 (λ e. no e))
  where
    no : b ≡ 101 → ⊥
    no e =
        let k : false ≡ true = subst (λ (x : ℕ). is_digit x ≡ true) e h in
        let z : ◌≡◌ {A = ℕ} 0 1 = cc in
        omega arith

canonical_digits : (s : List ℕ) → AllDigits s → canonical s ≡ s
canonical_digits [] d = refl
canonical_digits (b ∷ s) d =
    let h = of_head is_digit b s d in
    rw (digit_canon b h.0, canonical_digits s h.1)

canonical_take : (s : List ℕ) → take (run s) (canonical s) ≡ take (run s) s
canonical_take [] = refl
canonical_take (b ∷ s) = tested (is_digit b) (λ h. rw h (rw (digit_canon b h, canonical_take s))) (λ h. rw h)

canonical_begins : (x : ℕ) → eqb 99 x ≡ eqb 101 x → (s : List ℕ) → begins x (canonical s) ≡ begins x s
canonical_begins x same s = rw (canonical_length s, canonical_head (λ (b : ℕ). eqb b x) same s)

canonical_exponent : (s : List ℕ) → is_exponent (canonical s) ≡ is_exponent s
canonical_exponent s = rw (canonical_length s, canonical_head (λ (b : ℕ). eqb b 48) refl s, canonical_run s)

exponent_all : (s : List ℕ) → is_exponent s ≡ true → AllDigits s
exponent_all s h =
    eqb-true (run s) (length s)
    (tested (eqb (length s) 0) (λ e. not_both (rw e at h) refl) (λ e. tested (eqb (get_or s 0 0) 48) (λ k. not_both (rw k at (rw e at h)) refl) (λ k. rw k at (rw e at h))))

abbrev Same : Option Parts → Option Parts → Type 0
Same x y = x ≡ y

exponent_canonical : (negative : Bool) (whole fraction s : List ℕ) → exponent_at negative whole fraction (canonical s) ≡ exponent_at negative whole fraction s
exponent_canonical negative whole fraction s =
    rw (canonical_length s, canonical_head is_mark refl s, canonical_drop 1 s, canonical_exponent (drop 1 s))
    (choices Same (eqb (length s) 0) (λ _. refl)
    (λ _. choices Same (both (is_mark (get_or s 0 0)) (is_exponent (drop 1 s)))
    (λ h. rw (canonical_digits (drop 1 s) (exponent_all (drop 1 s) (both_true (is_mark (get_or s 0 0)) (is_exponent (drop 1 s)) h).1))) (λ _. refl)))

fraction_canonical : (negative : Bool) (whole s : List ℕ) → fraction_at negative whole (canonical s) ≡ fraction_at negative whole s
fraction_canonical negative whole s =
    rw (canonical_run s, canonical_take s, canonical_drop (run s) s, exponent_canonical negative whole (take (run s) s) (drop (run s) s))

point_canonical : (negative : Bool) (whole s : List ℕ) → point_at negative whole (canonical s) ≡ point_at negative whole s
point_canonical negative whole s =
    rw (canonical_begins 46 refl s)
    (choices Same (begins 46 s) (λ _. rw (canonical_drop 1 s) (fraction_canonical negative whole (drop 1 s)))
    (λ _. exponent_canonical negative whole [] s))

whole_canonical : (negative : Bool) (s : List ℕ) → whole_at negative (canonical s) ≡ whole_at negative s
whole_canonical negative s =
    rw (canonical_run s, canonical_take s, canonical_drop (run s) s, point_canonical negative (take (run s) s) (drop (run s) s))

parts_canonical : (s : List ℕ) → parts_of (canonical s) ≡ parts_of s
parts_canonical s =
    rw (canonical_begins 45 refl s)
    (choices Same (begins 45 s) (λ _. rw (canonical_drop 1 s) (whole_canonical true (drop 1 s))) (λ _. whole_canonical false s))

-- what is read of a text with so many bytes and these parts
abbrev sized_reading : ℕ → Option Parts → Result Number Refusal
sized_reading k o = if ltb max_bytes k then refuse NumberTooLong else judged o

read_canonical : (s : List ℕ) → read_number (canonical s) ≡ read_number s
read_canonical s =
    ap (λ (k : ℕ). sized_reading k (parts_of (canonical s))) (canonical_length s) ∙ ap (sized_reading (length s)) (parts_canonical s)

canonical_alike : (a b : List ℕ) → canonical (a ++ (99 ∷ b)) ≡ canonical (a ++ (101 ∷ b))
canonical_alike [] b = refl
canonical_alike (x ∷ a) b = ap (λ (l : List ℕ). canon x ∷ l) (canonical_alike a b)

-- wherever a `c` stands, an `e` there is read alike
pub marks_alike : (a b : List ℕ) → read_number (a ++ (99 ∷ b)) ≡ read_number (a ++ (101 ∷ b))
marks_alike a b = sym (read_canonical (a ++ (99 ∷ b))) ∙ ap read_number (canonical_alike a b) ∙ read_canonical (a ++ (101 ∷ b))
