-- Laws of a test along a list, and of digits.
use mathlib.Core.Path.{◌≡◌, refl, sym, ap, ◌∙◌}
use mathlib.Core.Bool.{Bool, true, false}
use mathlib.Core.List.{List, [], ◌∷◌, ◌++◌}
use Prim.Native.Nat.{ℕ, zero, suc, ◌+◌, ◌-◌, ◌≤◌, ◌<◌}
use native.Mathlib.Omega.{arith}
use native.Mathlib.Nat.{zero-add, suc-add}
use native.Mathlib.Numerals.{add-one}
use borrow.Author.Tests.{ltb-true, ltb-false, lt-ltb, le-ltb}
use lib.Dec.{ltb}
use lib.ListN.{length, get_or, take, drop, drop_of_length-le, length-append}
use lib.Seq.{drop-cons, length-take-le}
use Rattle.std.specs.List.{prefix_len}
use Rattle.std.proofs.lemmas.List.Folds.{length-prefix_len}
use Rattle.decimal.specs.Lists.{run_of, AllOf}
use Rattle.decimal.specs.Digits.{is_digit}
use Rattle.decimal.proofs.Choices.{tested, not_both}

pub nil_of_length : (s : List ℕ) → length s ≡ 0 → s ≡ []
nil_of_length [] e = refl
nil_of_length (b ∷ s) e = absurd (omega arith)

-- what is left behind the first element and others
pub drop_some : (w b : ℕ) (r : List ℕ) → 1 ≤ w → drop w (b ∷ r) ≡ drop (w - 1) r
drop_some zero b r h = absurd (no h)
  where
    no : 1 ≤ 0 → ⊥
    no g = omega arith
drop_some (suc w) b r h =
    let e : suc w - 1 ≡ w = omega arith in
    rw e

-- a digit is one of the bytes 48 to 57
pub digit_bounds : (b : ℕ) → is_digit b ≡ true → (48 ≤ b) × (b < 58)
digit_bounds b e = tested (ltb b 48) low high
  where
    low : ltb b 48 ≡ true → (48 ≤ b) × (b < 58)
    low k = not_both (rw k at e) refl

    high : ltb b 48 ≡ false → (48 ≤ b) × (b < 58)
    high k = (ltb-false b 48 k, ltb-true b 58 (rw k at e))

pub digit_is : (d : ℕ) → d < 10 → is_digit (48 + d) ≡ true
digit_is d h = rw (le-ltb (48 + d) 48 (omega arith), lt-ltb (48 + d) 58 (omega arith))

-- ---- a run of elements that a test holds of: one turn of a scan, its end, and its length

module _ (p : ℕ → Bool) where
  pub run_more : (s : List ℕ) (i : ℕ) → i < length s → p (get_or s i 0) ≡ true → i + run_of p (drop i s) ≡ (i + 1) + run_of p (drop (i + 1) s)
  run_more s i h d = rw (add-one, drop-cons s i 0 h, d) (omega arith)

  pub run_end : (s : List ℕ) (i : ℕ) → i < length s → p (get_or s i 0) ≡ false → run_of p (drop i s) ≡ 0
  run_end s i h d = rw (drop-cons s i 0 h, d)

  pub run_out : (s : List ℕ) (i : ℕ) → length s ≤ i → run_of p (drop i s) ≡ 0
  run_out s i h = rw (drop_of_length-le s h)

  pub run_le : (s : List ℕ) → run_of p s ≤ length s
  run_le [] = omega arith
  run_le (b ∷ s) = tested (p b) (λ k. rw k (omega (arith, run_le s))) (λ k. rw k (omega arith))

  pub run_some : (s : List ℕ) → 0 < length s → p (get_or s 0 0) ≡ true → 0 < run_of p s
  run_some [] h e = omega arith
  run_some (b ∷ s) h e = rw e (omega arith)

  -- the element behind a run fails the test
  pub run_stop : (s : List ℕ) → run_of p s < length s → p (get_or (drop (run_of p s) s) 0 0) ≡ true → ⊥
  run_stop [] h e = omega arith
  run_stop (b ∷ s) h e =
      tested (p b)
      (λ k.
      let h' : suc (run_of p s) < suc (length s) = rw k at h in
      let e' : p (get_or (drop (suc (run_of p s)) (b ∷ s)) 0 0) ≡ true = rw k at e in
      run_stop s (omega arith) e')
      (λ k.
      let e' : p b ≡ true = rw k at e in
      not_both e' k)

  -- ---- where the test holds of all: of the first, and of the others

  pub of_head : (b : ℕ) (s : List ℕ) → AllOf p (b ∷ s) → (p b ≡ true) × AllOf p s
  of_head b s e = tested (p b) yes no
    where
      yes : p b ≡ true → (p b ≡ true) × AllOf p s
      yes k =
          let f : suc (run_of p s) ≡ suc (length s) = rw k at e in
          (k, omega arith)

      no : p b ≡ false → (p b ≡ true) × AllOf p s
      no k =
          let f : 0 ≡ suc (length s) = rw k at e in
          absurd (omega arith)

  pub of_cons : (b : ℕ) (s : List ℕ) → p b ≡ true → AllOf p s → AllOf p (b ∷ s)
  of_cons b s d e = rw d (ap suc e)

  -- such a list before another: its run goes on behind it
  pub run_append : (s t : List ℕ) → AllOf p s → run_of p (s ++ t) ≡ length s + run_of p t
  run_append [] t e = sym (zero-add (run_of p t))
  run_append (b ∷ s) t e =
      let d = of_head b s e in
      rw d.0 (ap suc (run_append s t d.1) ∙ sym (suc-add (length s) (run_of p t)))

  pub of_append : (s t : List ℕ) → AllOf p s → AllOf p t → AllOf p (s ++ t)
  of_append s t e f = run_append s t e ∙ rw (f, length-append s t)

  run_take : (s : List ℕ) → run_of p (take (run_of p s) s) ≡ run_of p s
  run_take [] = refl
  run_take (b ∷ s) = tested (p b) (λ k. rw k (rw k (ap suc (run_take s)))) (λ k. rw k)

  -- the test holds of all of a run, and of what is taken or dropped of where it holds of all
  pub of_run : (s : List ℕ) → AllOf p (take (run_of p s) s)
  of_run s = rw (run_take s, length-take-le (run_of p s) s (run_le s))

  pub of_take : (k : ℕ) (s : List ℕ) → AllOf p s → AllOf p (take k s)
  of_take zero s e = refl
  of_take (suc k) [] e = refl
  of_take (suc k) (b ∷ s) e =
      let d = of_head b s e in
      rw d.0 (ap suc (of_take k s d.1))

  pub of_drop : (k : ℕ) (s : List ℕ) → AllOf p s → AllOf p (drop k s)
  of_drop zero s e = e
  of_drop (suc k) [] e = refl
  of_drop (suc k) (b ∷ s) e = of_drop k s (of_head b s e).1

  -- what the library counts of a list's first elements is its run
  pub prefix_is_run : (s : List ℕ) → prefix_len p s ≡ run_of p s
  prefix_is_run [] = refl
  prefix_is_run (b ∷ s) = tested (p b) (λ k. rw k (omega (arith, prefix_is_run s))) (λ k. rw k)

  pub counted : (s : List ℕ) (n : ℕ) → n ≡ length (take (prefix_len p s) s) → (n ≡ run_of p s) × (n ≤ length s)
  counted s n e =
      let k : n ≡ run_of p s = e ∙ length-prefix_len p s ∙ prefix_is_run s in
      (k, omega (arith, run_le s))
