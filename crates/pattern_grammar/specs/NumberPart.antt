-- Document 01, "The pattern": what a number part is. "Number part: integer places `#` first, then digits; optionally `.`, then digits, then `#`.
-- Either side of the point may be empty, but at least one digit stands in the part."
use Rattle.std.specs.Prelude.{◌≡◌, false, List, [], ◌∷◌, ◌++◌, ℕ, suc, ◌<◌, eqb, length, get_or, if◌then◌else◌}
use Rattle.decimal.specs.Lists.{AllOf}
use Rattle.decimal.specs.Digits.{begins, AllDigits}
use Rattle.pattern_number.specs.Shape.{is_hash, digits}

abbrev pub drop_commas : List ℕ → List ℕ
drop_commas [] = []
drop_commas (b ∷ s) = if eqb b 44 then drop_commas s else b ∷ drop_commas s

-- `#` alone
abbrev pub AllHashes : List ℕ → Type 0
AllHashes s = AllOf is_hash s

-- "integer places `#` first, then digits"
pub record IsPlaces (t : List ℕ) : Type 0 where
  pub marks : List ℕ
  pub figures : List ℕ
  pub text : t ≡ marks ++ figures
  pub marks_are : AllHashes marks
  pub figures_are : AllDigits figures

-- "Commas stand only among integer places: not first, not last, not adjacent."
pub record IsWhole (w : List ℕ) : Type 0 where
  pub places : IsPlaces (drop_commas w)
  pub not_first : begins 44 w ≡ false
  pub apart : (i : ℕ) → i < length w → get_or w i 0 ≡ 44 → (suc i < length w) × (get_or w (suc i) 0 ≡ 44 → ⊥)

-- "then digits, then `#`"
pub record IsFraction (f : List ℕ) : Type 0 where
  pub figures : List ℕ
  pub marks : List ℕ
  pub text : f ≡ figures ++ marks
  pub figures_are : AllDigits figures
  pub marks_are : AllHashes marks

-- the sides of the point in the part n; without a point the right side is empty
pub data Sides : List ℕ → List ℕ → List ℕ → Type 0 where
  unpointed : {w : List ℕ} → Sides w w []
  pointed : {w f : List ℕ} → Sides (w ++ (46 ∷ f)) w f

pub record IsPart (n : List ℕ) : Type 0 where
  pub whole : List ℕ
  pub fraction : List ℕ
  pub sides : Sides n whole fraction
  pub whole_is : IsWhole whole
  pub fraction_is : IsFraction fraction
  pub some_digit : 0 < digits n
