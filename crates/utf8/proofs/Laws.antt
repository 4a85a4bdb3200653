-- Laws of UTF-8: code points one after the other.
use mathlib.Core.Path.{◌≡◌, refl, sym, ap, ◌∙◌}
use mathlib.Core.Bool.{false}
use mathlib.Core.List.{List, [], ◌∷◌}
use Prim.Native.Nat.{ℕ, zero, suc, ◌-◌, ◌≤◌, ◌<◌}
use native.Mathlib.Omega.{arith}
use borrow.Author.Tests.{eq-eqb, ne_eqb}
use lib.ListN.{length, drop}
use Rattle.utf8.specs.Utf8.{char_len, utf8_from}
use Rattle.decimal.proofs.Runs.{drop_some}

-- bytes of the code point before are skipped
utf8_skip : (k : ℕ) (s : List ℕ) → utf8_from k s ≡ utf8_from 0 (drop k s)
utf8_skip zero s = refl
utf8_skip (suc k) [] = refl
utf8_skip (suc k) (b ∷ s) = utf8_skip k s

pub utf8_one : (x : List ℕ) → 0 < length x → (char_len x ≡ 0 → ⊥) → utf8_from 0 x ≡ utf8_from 0 (drop (char_len x) x)
utf8_one [] h f = refl
utf8_one (b ∷ r) h f =
    let n = char_len (b ∷ r) in
    let g : 1 ≤ n = go n f in
    rw (ne_eqb n 0 f) (utf8_skip (n - 1) r ∙ ap (utf8_from 0) (sym (drop_some n b r g)))
  where
    go : (n : ℕ) → (n ≡ 0 → ⊥) → 1 ≤ n
    go zero f = absurd (f refl)
    go (suc n) f = omega arith

pub utf8_none : (x : List ℕ) → 0 < length x → char_len x ≡ 0 → utf8_from 0 x ≡ false
utf8_none [] h e = absurd (no h)
  where
    no : 0 < 0 → ⊥
    no g = omega arith
utf8_none (b ∷ r) h e = rw (eq-eqb _ _ e)
