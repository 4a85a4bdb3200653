-- The least number that passes a test.
use Rattle.std.specs.Prelude.{◌≡◌, Bool, true, false, ℕ, zero, suc, ◌≤◌, ◌<◌}

-- the first of the n numbers k, k + 1, .. that passes P; k + n where none does
unfoldable pub seek : (ℕ → Bool) → ℕ → ℕ → ℕ
seek P zero k = k
seek P (suc n) k = elim (P k) [ true ↦ k | false ↦ seek P n (suc k) ]

-- r is the least number from lo on and below hi that passes P, or hi where none does
pub record Least (P : ℕ → Bool) (lo hi r : ℕ) : Type 0 where
  pub low : lo ≤ r
  pub high : r ≤ hi
  pub none : (j : ℕ) → lo ≤ j → j < r → P j ≡ false
  pub hit : r < hi → P r ≡ true

-- y is the least number from x on that passes P
pub record Next (P : ℕ → Bool) (x y : ℕ) : Type 0 where
  pub low : x ≤ y
  pub none : (k : ℕ) → x ≤ k → k < y → P k ≡ false
  pub hit : P y ≡ true

-- P says the same of all numbers from x to before `stop`
pub record Alike (P : ℕ → Bool) (x : ℕ) (says : Bool) (stop : ℕ) : Type 0 where
  pub some : x < stop
  pub same : (k : ℕ) → x ≤ k → k < stop → P k ≡ says
