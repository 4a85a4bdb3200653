-- Document 01, "The pattern": "Permitted values are the whole multiples of the step." The nearest of them, ties to the even multiple.
use Rattle.std.specs.Prelude.{◌≡◌, ℕ, ◌+◌, ◌*◌, ◌-◌, ◌/◌, ◌%◌, ◌^◌, ◌≤◌, ltb, if◌then◌else◌}

-- how far apart two numbers are
abbrev pub apart : ℕ → ℕ → ℕ
apart a b = (a - b) + (b - a)

-- k times the step is as near to n as any multiple, and where another one is as near, k is even
pub record NearestEven (n step k : ℕ) : Type 0 where
  pub closest : (j : ℕ) → apart n (k * step) ≤ apart n (j * step)
  pub even : (j : ℕ) → (j ≡ k → ⊥) → apart n (k * step) ≡ apart n (j * step) → k % 2 ≡ 0

-- 1 where the next multiple is taken: past the half, or at the half where the quotient is odd (`odd` is 1 then, else 0)
abbrev pub up : ℕ → ℕ → ℕ → ℕ
up step odd r = if ltb (2 * r) step then 0 else if ltb step (2 * r) then 1 else odd

-- the number of steps nearest to n
abbrev pub steps_of : ℕ → ℕ → ℕ
steps_of step n = n / step + up step (n / step % 2) (n % step)

-- "`%` multiplies by 100, `‰` by 1000": the exact value of i and of the v fraction digits of value f, times the factor, in units of the last of `most`
-- fraction places, times 10 ^ v
abbrev pub exact : ℕ → ℕ → ℕ → ℕ → ℕ → ℕ
exact factor most i v f = (i * 10 ^ v + f) * (factor * 10 ^ most)

-- the multiple of the step, in units of the last fraction place, nearest to the exact value
abbrev pub units_of : ℕ → ℕ → ℕ → ℕ → ℕ → ℕ → ℕ
units_of step factor most i v f = steps_of (step * 10 ^ v) (exact factor most i v f) * step

-- Document 01's printed value, over every step and scale: it is a whole multiple of the step, no multiple is nearer to the exact value, and of two that
-- are equally near it is the even one. The exact value is `exact ..` / 10 ^ v units of the last fraction place, so both sides are taken times 10 ^ v.
pub record Permitted (step factor most i v f units : ℕ) : Type 0 where
  pub multiple : ℕ
  pub is_multiple : units ≡ multiple * step
  pub nearest_even : NearestEven (exact factor most i v f) (step * 10 ^ v) multiple
