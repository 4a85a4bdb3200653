-- The table of next numbers in flat arrays: level j has the segments at places at[j] to before at[j + 1]; where there is none, it asks nothing.
use Rattle.std.specs.Prelude.{◌≡◌, Bool, true, List, ◌⊎◌, ℕ, suc, ◌-◌, ◌^◌, ◌≤◌, ◌<◌, leb, length, get_or, if◌then◌else◌}
use Rattle.pack_rules.specs.Stretch.{stretch}
use Rattle.check_laws.specs.Segments.{Segment, segment, climb, Level}

-- how many segments there is room for
abbrev pub room : ℕ
room = 288

-- the segment at place k, and those from place `from` to before `to`
abbrev pub segment_at : List ℕ → List ℕ → ℕ → Segment
segment_at starts ends k = segment (get_or starts k 0) (get_or ends k 0)

abbrev pub segments_in : List ℕ → List ℕ → ℕ → ℕ → List Segment
segments_in starts ends from to = stretch (segment_at starts ends) from (to - from)

-- those of level j
abbrev pub level_at : List ℕ → List ℕ → List ℕ → ℕ → List Segment
level_at starts ends at j = segments_in starts ends (get_or at j 0) (get_or at (suc j) 0)

-- no number of the list is above a million
abbrev pub Small : List ℕ → Type 0
Small l = (k : ℕ) → get_or l k 0 ≤ 1_000_000

-- the levels below J lie within the arrays, one behind the other
pub record Laid (starts ends at : List ℕ) (J : ℕ) : Type 0 where
  pub few : J ≤ 7
  pub rise : (j : ℕ) → j < J → get_or at j 0 ≤ get_or at (suc j) 0
  pub within : get_or at J 0 ≤ room
  pub low : Small starts
  pub high : Small ends
  pub starts_long : length starts ≡ room
  pub ends_long : length ends ≡ room
  pub at_long : length at ≡ 8

-- the next number from x on of a level with modulus m, where y is that of the levels below it
abbrev pub climb_in : List ℕ → List ℕ → ℕ → ℕ → ℕ → ℕ → ℕ → ℕ
climb_in starts ends from to m x y = if leb to from then y else climb (segments_in starts ends from to) m x y

-- Level j of the table says what S (suc j) asks beside S j: nothing, or its segments.
abbrev pub Stands : (ℕ → ℕ → Bool) → List ℕ → List ℕ → List ℕ → ℕ → Type 0
Stands S starts ends at j =
    ((get_or at (suc j) 0 ≤ get_or at j 0) × ((x : ℕ) → S (suc j) x ≡ S j x))
    ⊎ ((get_or at j 0 < get_or at (suc j) 0) × Level (S (suc j)) (S j) (10 ^ j) (level_at starts ends at j))

-- The levels below J are those of the tests S: S j asks what the levels below j ask.
pub record Tabled (S : ℕ → ℕ → Bool) (starts ends at : List ℕ) (J : ℕ) : Type 0 where
  pub free : (x : ℕ) → S 0 x ≡ true
  pub stands : (j : ℕ) → j < J → Stands S starts ends at j
