-- A text in an output area: document 01's row 51, "text longer than the output area", and "A refusal writes nothing; a success writes its text at the
-- front and no byte beyond, and returns its length."
use Rattle.std.specs.Prelude.{Bool, List, ◌++◌, ℕ, ltb, length, drop, if◌then◌else◌, Result, Ok, Err}
use Rattle.answer.specs.declared.Refusal.{Refusal}
use Rattle.answer.specs.declared.Refusal.TheVariants.{Print as OfPrint}
use Rattle.answer.specs.declared.PrintRow.TheVariants.{AreaTooShort}

abbrev pub too_long : List ℕ → List ℕ → Bool
too_long t area = ltb (length area) (length t)

-- the length of a text that has room, or 51 with the bytes needed
abbrev pub written_in : List ℕ → List ℕ → Result ℕ Refusal
written_in t area = if too_long t area then Err (OfPrint (AreaTooShort (length t))) else Ok (length t)

-- the whole area behind
abbrev pub area_with : List ℕ → List ℕ → List ℕ
area_with t area = if too_long t area then area else t ++ drop (length t) area
