-- Laws of a test that says the same of all numbers from one to before another.
use mathlib.Core.Path.{◌≡◌, sym, ap, ◌∙◌}
use mathlib.Core.Bool.{Bool, not}
use Prim.Native.Nat.{ℕ, ◌<◌}
use native.Mathlib.Omega.{arith}
use Rattle.check_laws.specs.Seek.{Alike}

-- it says so of the first
pub alike_at : {P : ℕ → Bool} {x stop : ℕ} {b : Bool} → Alike P x b stop → b ≡ P x
alike_at {x} a = sym (a.same x (omega arith) a.some)

-- a test that says the same
pub alike_same : {P Q : ℕ → Bool} {x stop : ℕ} {b : Bool} → ((k : ℕ) → P k ≡ Q k) → Alike P x b stop → Alike Q x b stop
alike_same e a = record { some = a.some; same = λ k l h. sym (e k) ∙ a.same k l h }

-- a test that says one thing of all numbers
pub alike_all : {P : ℕ → Bool} {x stop : ℕ} {b : Bool} → x < stop → ((k : ℕ) → P k ≡ b) → Alike P x b stop
alike_all h e = record { some = h; same = λ k _ _. e k }

pub alike_not : {P : ℕ → Bool} {x stop : ℕ} {b : Bool} → Alike P x b stop → Alike (λ k. not (P k)) x (not b) stop
alike_not a = record { some = a.some; same = λ k l h. ap not (a.same k l h) }
