-- Writing into an output area.
use Rattle.std.specs.Prelude.{◌≡◌, List, ℕ, ◌+◌, ◌-◌, ◌^◌, min, length}
use Rattle.std.proofs.lemmas.List.Edits.{sets}

-- the largest place that is told apart: the largest usize
abbrev pub most : ℕ
most = 2 ^ 64 - 1

-- The piece is written into the area from a place on, and the next place is behind it. What would stand past the area's end is not written.
pub record Wrote (before : List ℕ) (at : ℕ) (piece : List ℕ) (after : List ℕ) (end : ℕ) : Type 0 where
  pub area : after ≡ sets before at piece
  pub next : end ≡ min (at + length piece) most
