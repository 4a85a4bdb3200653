-- A test along a list: how far it holds from the front on, and whether it holds of every element or of one.
use Rattle.std.specs.Prelude.{Bool, true, false, ◌≡◌, List, [], ◌∷◌, ℕ, suc, length, if◌then◌else◌}
use Rattle.decimal.specs.Choice.{both, either}

-- how many elements a list begins with of which the test holds
abbrev pub run_of : (ℕ → Bool) → List ℕ → ℕ
run_of p [] = 0
run_of p (b ∷ s) = if p b then suc (run_of p s) else 0

-- the test holds of every element
abbrev pub AllOf : (ℕ → Bool) → List ℕ → Type 0
AllOf p s = run_of p s ≡ length s

abbrev pub all : {A : Type 0} → (A → Bool) → List A → Bool
all p [] = true
all p (x ∷ xs) = both (p x) (all p xs)

abbrev pub any : {A : Type 0} → (A → Bool) → List A → Bool
any p [] = false
any p (x ∷ xs) = either (p x) (any p xs)
