-- Laws of the reader's cuts.
use mathlib.Core.Path.{◌≡◌}
use mathlib.Core.Bool.{Bool, true, false}
use mathlib.Core.List.{List}
use Prim.Native.Nat.{ℕ, ◌-◌}
use native.Mathlib.Omega.{arith}
use lib.ListN.{length, take, drop, length-drop}
use lib.Seq.{take_all}
use Rattle.std.specs.Prelude.{if◌then◌else◌}
use Rattle.decimal.specs.Digits.{run, AllDigits, is_digit}
use Rattle.decimal.proofs.Runs.{of_run}

-- what stands behind a text's first byte
pub behind_first : (s : List ℕ) → take (length s - 1) (drop 1 s) ≡ drop 1 s
behind_first s = take_all (length s - 1) (drop 1 s) (omega (arith, length-drop 1 s))

-- the digits behind a point, where there is one, are digits alone
pub point_digits : (on : Bool) (t : List ℕ) (n : ℕ) → n ≡ (if on then run t else 0) → AllDigits (take n t)
point_digits true t n e = rw e (of_run is_digit t)
point_digits false t n e = rw e
