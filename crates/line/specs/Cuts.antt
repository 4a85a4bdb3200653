-- Where a line ends, of an input in pieces, of which more may come.
use Rattle.std.specs.Prelude.{◌≡◌, Bool, List, ℕ, ltb, length, take, drop, if◌then◌else◌}
use Rattle.std.proofs.lemmas.List.Edits.{sets}
use Rattle.decimal.specs.Split.{until}
use Rattle.line.specs.declared.Cut.{Cut}
use Rattle.line.specs.declared.Cut.TheVariants.{Line, Over, More, Done}

-- "A line over 8,192 bytes, its LF not counted"
abbrev pub max_line : ℕ
max_line = 8192

-- how many bytes stand before the first LF
abbrev pub line_length : List ℕ → ℕ
line_length s = until 10 s

-- the input has ended, and no LF is left: the bytes are a last line, unless there is none
abbrev pub last_cut : Bool → List ℕ → Cut
last_cut long s = if long then Line (length s) else if ltb 0 (length s) then Line (length s) else Done

-- The bytes s are held. `long`: those of the same line before them were dropped, being too many. `last`: the input ends behind them.
abbrev pub cut_of : Bool → Bool → List ℕ → Cut
cut_of long last s =
    if ltb (line_length s) (length s) then Line (line_length s) else
    if last then last_cut long s else
    if ltb max_line (length s) then Over else
    More

-- the bytes of a buffer from one place up to another, moved to its front
pub record Kept (before : List ℕ) (from held : ℕ) (after : List ℕ) (count : ℕ) : Type 0 where
  pub moved : after ≡ sets before 0 (drop from (take held before))
  pub counted : count ≡ length (drop from (take held before))
