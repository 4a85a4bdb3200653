-- A text parted at a byte.
use Rattle.std.specs.Prelude.{List, [], ◌∷◌, ℕ, suc, eqb, if◌then◌else◌}

-- how many bytes stand before the first b
abbrev pub until : ℕ → List ℕ → ℕ
until b [] = 0
until b (x ∷ s) = if eqb x b then 0 else suc (until b s)

-- a byte in front of the first part
abbrev pub on_first : ℕ → List (List ℕ) → List (List ℕ)
on_first x [] = (x ∷ []) ∷ []
on_first x (p ∷ ps) = (x ∷ p) ∷ ps

-- the parts between the bytes b: always one more than there are such bytes
abbrev pub split : ℕ → List ℕ → List (List ℕ)
split b [] = [] ∷ []
split b (x ∷ s) = if eqb x b then [] ∷ split b s else on_first x (split b s)
