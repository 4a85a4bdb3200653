-- The search for a number in a list, as the library says it.
use mathlib.Core.Path.{◌≡◌, refl}
use mathlib.Core.List.{List, [], ◌∷◌}
use Prim.Native.Nat.{ℕ}
use lib.Dec.{eqb}
use Rattle.std.specs.List.{list_any}
use Rattle.decimal.proofs.Choices.{tested}
use Rattle.pack_faults.specs.Faults.{held}

pub any_held : (k : ℕ) (s : List ℕ) → list_any (λ x. eqb x k) s ≡ held k s
any_held k [] = refl
any_held k (x ∷ s) = tested (eqb x k) (λ e. rw e) (λ e. rw e (any_held k s))
