-- Values as bits, one after the other.
use mathlib.Core.Path.{◌≡◌, ap, ◌∙◌}
use mathlib.Core.Bool.{Bool, true, false}
use Prim.Native.Nat.{ℕ, ◌+◌, ◌*◌, ◌%◌, ◌^◌, ◌≤◌, ◌<◌}
use native.Mathlib.Omega.{arith}
use native.Mathlib.Nat.{pow-suc}
use native.Mathlib.Numerals.{add-one}
use lib.Bits.{bit_or, or_shifted_r}
use lib.Pow.{pow_mono}
use Rattle.select.proofs.Masks.{mask_more, mask_fits}
use Rattle.check_laws.specs.Profile.{values_of}

-- a bit above all others is added
pub or_above : (mask x m : ℕ) → x < 15 → mask < 2 ^ x → m ≡ bit_or mask ((1 * 2 ^ x) % 2 ^ 64) → m ≡ mask + 2 ^ x
or_above mask x m few h e =
    let l : 2 ^ x ≤ 16384 = pow_mono {i = x} {j = 14} (omega arith) in
    let f : (1 * 2 ^ x) % 2 ^ 64 ≡ 1 * 2 ^ x = omega (arith, l) in
    e ∙ ap (bit_or mask) f ∙ or_shifted_r 1 x mask h ∙ omega arith

-- the bits of the values below x, then that of x too
module _ (x mask m : ℕ) (h : mask < 2 ^ x) where
  pub on_lt : x < 15 → m ≡ bit_or mask ((1 * 2 ^ x) % 2 ^ 64) → m < 2 ^ (x + 1)
  on_lt few e = rw (add-one x) (omega (arith, h, or_above mask x m few h e, pow-suc 2 x))

  pub off_lt : m ≡ mask → m < 2 ^ (x + 1)
  off_lt e = rw (add-one x) (omega (arith, h, e, pow-suc 2 x))

  module _ (P : ℕ → Bool) (s : mask ≡ values_of P x) where
    pub on_more : true ≡ P x → x < 15 → m ≡ bit_or mask ((1 * 2 ^ x) % 2 ^ 64) → m ≡ values_of P (x + 1)
    on_more on few e = mask_more P x true mask m s on (or_above mask x m few h e ∙ omega arith)

    pub off_more : false ≡ P x → m ≡ mask → m ≡ values_of P (x + 1)
    off_more off e = mask_more P x false mask m s off (omega (arith, e))

pub values_lt : (P : ℕ → Bool) (n m : ℕ) → m ≡ values_of P n → m < 2 ^ n
values_lt P n m e = mask_fits P n m e
