-- How digits are spelled: ASCII's as the bytes that they are, and none in more than four bytes.
use mathlib.Core.Path.{◌≡◌, refl, ap}
use mathlib.Core.Bool.{true}
use mathlib.Core.List.{List, [], ◌∷◌}
use Prim.Native.Nat.{ℕ, ◌+◌, ◌-◌, ◌≤◌}
use native.Mathlib.Omega.{arith}
use borrow.Author.Tests.{lt-ltb}
use lib.Dec.{ltb}
use lib.ListN.{length}
use Rattle.decimal.specs.Digits.{is_digit}
use Rattle.decimal.proofs.Choices.{choice}
use Rattle.decimal.proofs.Runs.{digit_bounds}
use Rattle.utf8.specs.Scalar as utf8
use Rattle.layout.specs.Layout.{zero_digit, spell, spelled}

-- ---- ASCII's digits

pub spell_ascii : (b : ℕ) → spell zero_digit b ≡ b ∷ []
unfolding spell
spell_ascii b = choice (λ (t : List ℕ). t ≡ b ∷ []) (is_digit b) digit (λ d. refl)
  where
    digit : is_digit b ≡ true → utf8.spell (zero_digit + (b - 48)) ≡ b ∷ []
    digit d =
        let h = digit_bounds b d in
        let e : 48 + (b - 48) ≡ b = omega arith in
        rw (e, lt-ltb b 0x80 (omega arith))

pub spelled_ascii : (d : List ℕ) → spelled zero_digit d ≡ d
spelled_ascii [] = refl
spelled_ascii (b ∷ d) = rw (spell_ascii b) (ap (λ (l : List ℕ). b ∷ l) (spelled_ascii d))

-- ---- how long a digit is

char_four : (x : ℕ) → length (utf8.spell x) ≤ 4
char_four x =
    choice (λ (t : List ℕ). length t ≤ 4) (ltb x 0x80) (λ k. omega arith) (λ k.
    choice (λ (t : List ℕ). length t ≤ 4) (ltb x 0x800) (λ m. omega arith) (λ m.
    choice (λ (t : List ℕ). length t ≤ 4) (ltb x 0x10000) (λ n. omega arith) (λ n. omega arith)))

pub spell_four : (nought b : ℕ) → length (spell nought b) ≤ 4
unfolding spell
spell_four nought b = choice (λ (t : List ℕ). length t ≤ 4) (is_digit b) (λ d. char_four (nought + (b - 48))) (λ d. omega arith)
