-- The digits shown are the value's: leading and trailing zeros are dropped, and no other digit.
use mathlib.Core.Path.{◌≡◌, refl, sym, ap, ◌∙◌}
use mathlib.Core.Bool.{Bool, true, false}
use mathlib.Core.List.{List, [], ◌∷◌, ◌++◌}
use mathlib.Core.Logic.{⊎_elim}
use Prim.Native.Nat.{ℕ, zero, suc, ◌+◌, ◌*◌, ◌-◌, ◌/◌, ◌%◌, ◌^◌, ◌≤◌, ◌<◌, min, max}
use native.Mathlib.Omega.{arith}
use native.Mathlib.Nat.{pow-succ', mul-one, mul-le-mul_right}
use borrow.Author.Tests.{eqb-true}
use lib.Arith.{digits_div, digits_mod}
use lib.Dec.{eqb}
use lib.Pow.{pow-add}
use lib.ListN.{length, get_or, take, drop, length-take, length-drop, take-append-drop}
use Rattle.std.specs.Prelude.{if◌then◌else◌}
use Rattle.decimal.specs.Digits.{AllDigits, value_from, value, lead, shown, keep, trim, is_digit, is_zero}
use Rattle.decimal.proofs.Runs.{of_take, of_drop, run_le}
use Rattle.decimal.proofs.Values.{power_pos, value_append, value_from_law, value_lt}
use Rattle.decimal.proofs.Zeros.{lead_stop, value_shown, trim_front, trim_last}
use Rattle.decimal.proofs.Unique.{power_cancel, same_digits, longer_leads, longer_trails}
use Rattle.layout.specs.Layout.{whole_digits, kept, fraction_digits}
use Rattle.print_grammar.specs.Digits.{ShownDigits}

-- ---- trailing zeros

trim_tail : (b : ℕ) (t : List ℕ) (j : ℕ) → length (keep b t) ≤ suc j → length t ≤ j
trim_tail b [] j h = omega arith
trim_tail b (x ∷ t) j h = omega arith

trim_none : (b : ℕ) (t : List ℕ) → length (keep b t) ≡ 0 → (b ≡ 48) × (length t ≡ 0)
trim_none b [] h = go (eqb b 48) refl h
  where
    go : (k : Bool) → eqb b 48 ≡ k → length (if k then [] else b ∷ []) ≡ 0 → (b ≡ 48) × (length {A = ℕ} [] ≡ 0)
    go true e f = (eqb-true b 48 e, refl)
    go false e f = absurd (no f)
      where
        no : length (b ∷ []) ≡ 0 → ⊥
        no g = omega arith
trim_none b (x ∷ t) h = absurd (no h)
  where
    no : suc (suc (length t)) ≡ 0 → ⊥
    no g = omega arith

value_zeros : (n : ℕ) (s : List ℕ) → length (trim s) ≡ 0 → value_from n s ≡ n * 10 ^ length s
value_zeros n [] h = sym (mul-one n)
value_zeros n (b ∷ s) h =
    let z = trim_none b (trim s) h in
    rw (z.0, pow-succ' 10 (length s)) (value_zeros (10 * n + (48 - 48)) s z.1 ∙ omega arith)

-- the digits behind the last that is not zero weigh nothing
value_trail : (n j : ℕ) (s : List ℕ) → length (trim s) ≤ j → value_from n (take j s) * 10 ^ (length s - j) ≡ value_from n s
value_trail n zero s h =
    let e : length s - 0 ≡ length s = omega arith in
    rw e (sym (value_zeros n s (omega arith)))
value_trail n (suc j) [] h =
    let e : 0 - suc j ≡ 0 = omega arith in
    rw e (mul-one n)
value_trail n (suc j) (b ∷ s) h =
    let e : suc (length s) - suc j ≡ length s - j = omega arith in
    rw e (value_trail (10 * n + (b - 48)) j s (trim_tail b (trim s) j h))

kept_value : (lw lf : ℕ) (w f : List ℕ) → value (shown lw w ++ kept lf f) * 10 ^ (length f - length (kept lf f)) ≡ value (w ++ f)
kept_value lw lf w f =
    let j = max lf (length (trim f)) in
    let e : length f - length (take j f) ≡ length f - j = omega (arith, length-take j f) in
    rw (e, value_append 0 (shown lw w) (take j f), value_append 0 w f, value_shown lw w) (value_trail (value w) j f (omega arith))

-- ---- no zero more than asked for

whole_first : (least : ℕ) (s : List ℕ) → least ≤ length s → least < length (shown least s) → get_or (shown least s) 0 0 ≡ 48 → ⊥
whole_first least s h l e =
    let m = min (lead s) (length s - least) in
    let k : m ≡ lead s = omega (arith, length-drop m s) in
    let l' : least < length (drop (lead s) s) = rw k at l in
    let e' : get_or (drop (lead s) s) 0 0 ≡ 48 = rw k at e in
    lead_stop s (omega (arith, length-drop (lead s) s)) e'

fraction_last : (least : ℕ) (s : List ℕ) → AllDigits s → least < length (kept least s) → value (kept least s) % 10 ≡ 0 → ⊥
fraction_last least s a l e =
    let m = length (trim s) in
    let j = max least m in
    let k : j ≡ m = omega (arith, length-take j s) in
    let t : kept least s ≡ trim s = rw k (sym (trim_front s)) in
    let l' : least < length (trim s) = rw t at l in
    let e' : value (trim s) % 10 ≡ 0 = rw t at e in
    ⊎_elim (λ z. none l' (ap length z)) (λ f. f e') (trim_last 0 s a)
  where
    none : {n : ℕ} → least < n → n ≡ 0 → ⊥
    none h z = omega arith

-- ---- together, of digits of which the last `most` are the fraction's

pub digits_shown : (least fraction most : ℕ) (d : List ℕ) → AllDigits d → least + most ≤ length d → fraction ≤ most
    → ShownDigits least fraction most (value d) (whole_digits least most d) (fraction_digits fraction most d)
digits_shown least fraction most d a h hf =
    let n = length d - most in
    let w = take n d in
    let f = drop n d in
    let aw = of_take is_digit n d a in
    let af = of_drop is_digit n d a in
    let lw : length w ≡ n = omega (arith, length-take n d) in
    let lf : length f ≡ most = omega (arith, length-drop n d) in
    let m = min (lead w) (length w - least) in
    let j = max fraction (length (trim f)) in
    record {
      whole_digits_law = of_drop is_digit m w aw;
      fraction_digits_law = of_take is_digit j f af;
      worth = rw lf at (kept_value least fraction w f) ∙ ap value (take-append-drop n d);
      whole_least = omega (arith, length-drop m w, run_le is_zero w);
      whole_spare = λ k. whole_first least w (omega arith) (omega arith);
      fraction_least = omega (arith, length-take j f);
      fraction_most = omega (arith, length-take j f);
      fraction_spare = λ k. fraction_last fraction f af (omega arith);
    }

-- ---- and no others are

module _ {least fraction most units : ℕ} {w f : List ℕ} (x : ShownDigits least fraction most units w f) where
  -- the value is the integer digits' times ten to the fraction places, and the fraction's, which is less than that
  shown_parts : (value w ≡ units / 10 ^ most) × (value f * 10 ^ (most - length f) ≡ units % 10 ^ most)
  shown_parts =
      let a = 10 ^ length f in
      let b = 10 ^ (most - length f) in
      let l : length f + (most - length f) ≡ most = omega (arith, x.fraction_most) in
      let m : 10 ^ most ≡ a * b = rw l at (pow-add 10 (length f) (most - length f)) in
      let v : value (w ++ f) ≡ value w * a + value f = value_append 0 w f ∙ value_from_law (value w) f in
      let u : units ≡ value w * (a * b) + value f * b = sym x.worth ∙ rw v (omega arith) in
      let k : value f * b < a * b = omega (arith, mul-le-mul_right b (value_lt f x.fraction_digits_law), power_pos (most - length f)) in
      rw (u, m) (sym (digits_div (value w) k), sym (digits_mod (value w) k))

module _ {least fraction most units : ℕ} {w f w' f' : List ℕ} (x : ShownDigits least fraction most units w f) (y : ShownDigits least fraction most units w' f') where
  same_whole : value w ≡ value w'
  same_whole = (shown_parts x).0 ∙ sym (shown_parts y).0

  same_fraction : value f * 10 ^ (most - length f) ≡ value f' * 10 ^ (most - length f')
  same_fraction = (shown_parts x).1 ∙ sym (shown_parts y).1

  whole_not_longer : length w < length w' → ⊥
  whole_not_longer h =
      y.whole_spare (omega (arith, x.whole_least)) (longer_leads w w' x.whole_digits_law y.whole_digits_law same_whole h)

  fraction_not_longer : length f < length f' → ⊥
  fraction_not_longer h =
      y.fraction_spare (omega (arith, x.fraction_least)) (longer_trails f f' most same_fraction h y.fraction_most)

pub shown_only : {least fraction most units : ℕ} {w f w' f' : List ℕ} → ShownDigits least fraction most units w f → ShownDigits least fraction most units w' f'
    → (w ≡ w') × (f ≡ f')
shown_only {most = most} {w = w} {f = f} {w' = w'} {f' = f'} x y =
    let m : length w ≡ length w' = omega (arith, whole_not_longer x y, whole_not_longer y x) in
    let n : length f ≡ length f' = omega (arith, fraction_not_longer x y, fraction_not_longer y x) in
    let e : value f ≡ value f' = power_cancel (value f) (value f') (most - length f') (rw n at (same_fraction x y)) in
    (same_digits w w' x.whole_digits_law y.whole_digits_law m (same_whole x y), same_digits f f' x.fraction_digits_law y.fraction_digits_law n e)
