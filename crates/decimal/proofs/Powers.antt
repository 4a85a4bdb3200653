-- Powers of ten, one by one and in a table.
use mathlib.Core.Path.{◌≡◌, sym, subst, ◌∙◌}
use mathlib.Core.List.{List, [], ◌∷◌}
use Prim.Native.Nat.{ℕ, zero, suc, ◌+◌, ◌*◌, ◌^◌, ◌≤◌, ◌<◌}
use native.Mathlib.Omega.{arith}
use native.Mathlib.Nat.{pow-succ'}
use native.Mathlib.Numerals.{add-one}
use lib.ListN.{get_or}
use Rattle.decimal.proofs.Values.{power_mono}

pub power_more : (p i : ℕ) → p ≡ 10 ^ i → 10 * p ≡ 10 ^ (i + 1)
power_more p i e = rw (add-one i, pow-succ' 10 i, e)

pub power_room : (p i : ℕ) → p ≡ 10 ^ i → i < 18 → 10 * p ≤ 10 ^ 18
power_room p i e h = subst (λ (x : ℕ). x ≤ 10 ^ 18) (sym (power_more p i e)) (power_mono {j = 18} (omega arith))

-- n numbers, each ten times the one before, from p on
abbrev pub powers : ℕ → ℕ → List ℕ
powers zero p = []
powers (suc n) p = p ∷ powers n (10 * p)

pub powers_at : (n p k : ℕ) → k < n → get_or (powers n p) k 0 ≡ p * 10 ^ k
powers_at zero p k h = absurd (omega arith)
powers_at (suc n) p zero h = omega arith
powers_at (suc n) p (suc k) h = powers_at n (10 * p) k (omega arith) ∙ rw (pow-succ' 10 k) (omega arith)
