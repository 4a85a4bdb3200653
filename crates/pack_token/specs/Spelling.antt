-- Byte strings: whether two are the same, and which of some a text begins with.
use Rattle.std.specs.Prelude.{Bool, true, false, List, [], ◌∷◌, ℕ, eqb, length, if◌then◌else◌}
use Rattle.decimal.specs.Choice.{both}

-- two texts are the same, byte for byte
abbrev pub same : List ℕ → List ℕ → Bool
same [] [] = true
same [] (y ∷ t) = false
same (x ∷ s) [] = false
same (x ∷ s) (y ∷ t) = both (eqb x y) (same s t)

-- a text stands in a list of texts
abbrev pub among : List ℕ → List (List ℕ) → Bool
among t [] = false
among t (w ∷ ws) = if same t w then true else among t ws

-- the text s begins with w
abbrev pub starts : List ℕ → List ℕ → Bool
starts [] s = true
starts (x ∷ w) [] = false
starts (x ∷ w) (y ∷ s) = both (eqb y x) (starts w s)

-- the length of the first of these that the text begins with, or 0
abbrev pub length_of : List (List ℕ) → List ℕ → ℕ
length_of [] s = 0
length_of (w ∷ ws) s = if starts w s then length w else length_of ws s
