-- Document 01, "The pattern": the number part, its grammar and what it asks for.
use Rattle.std.specs.Prelude.{Bool, true, false, not, List, [], ◌∷◌, ℕ, suc, ◌+◌, ◌*◌, ◌-◌, min, ltb, eqb, length, get_or, take, drop, if◌then◌else◌}
use Rattle.decimal.specs.Lists.{run_of}
use Rattle.decimal.specs.Digits.{is_digit, begins, run}
use Rattle.decimal.specs.Split.{until}
use Rattle.pattern_number.specs.declared.Shape.{Shape}

-- ---- both sides of the point

abbrev pub whole_of : List ℕ → List ℕ
whole_of n = take (until 46 n) n

abbrev pub fraction_of : List ℕ → List ℕ
fraction_of n = drop (until 46 n + 1) n

-- how many bytes there are from `low` to `high`
abbrev pub between : ℕ → ℕ → ℕ → Bool
between low high b = if ltb b low then false else if ltb high b then false else true

abbrev pub count : ℕ → ℕ → List ℕ → ℕ
count low high [] = 0
count low high (b ∷ s) = if between low high b then suc (count low high s) else count low high s

abbrev pub digits : List ℕ → ℕ
digits s = count 48 57 s

-- ---- "integer places `#` first, then digits; optionally `.`, then digits, then `#`. Either side of the point may be empty, but at least one digit
-- stands in the part. Commas stand only among integer places: not first, not last, not adjacent."

-- `#` first, then digits, commas anywhere; `seen`: a digit stands before
abbrev pub misplaced : Bool → ℕ → Bool
misplaced seen b = if eqb b 44 then false else if eqb b 35 then seen else not (is_digit b)

abbrev pub seen_after : Bool → ℕ → Bool
seen_after seen b = if eqb b 44 then seen else is_digit b

abbrev pub ordered : Bool → List ℕ → Bool
ordered seen [] = true
ordered seen (b ∷ s) = if misplaced seen b then false else ordered (seen_after seen b) s

-- a comma b in front of the text s: last, or adjacent to another
abbrev pub bad_comma : ℕ → List ℕ → Bool
bad_comma b s = if eqb b 44 then (if eqb (length s) 0 then true else eqb (get_or s 0 0) 44) else false

abbrev pub apart : List ℕ → Bool
apart [] = true
apart (b ∷ s) = if bad_comma b s then false else apart s

abbrev pub whole_fits : List ℕ → Bool
whole_fits s = if begins 44 s then false else if apart s then ordered false s else false

abbrev pub is_hash : ℕ → Bool
is_hash b = eqb b 35

-- how many `#` a text begins with
abbrev pub hashes : List ℕ → ℕ
hashes s = run_of is_hash s

abbrev pub fraction_fits : List ℕ → Bool
fraction_fits s = eqb (run s + hashes (drop (run s) s)) (length s)

abbrev pub number_fits : List ℕ → Bool
number_fits n = if ltb 0 (digits n) then (if whole_fits (whole_of n) then fraction_fits (fraction_of n) else false) else false

-- ---- groups: "The primary group is the places after the last comma; the secondary those between the last two, else equal to the primary."

-- how many bytes there are up to the last b, with it (0: there is none)
abbrev pub last : ℕ → List ℕ → ℕ
last b [] = 0
last b (x ∷ s) = let n = last b s in if ltb 0 n then suc n else if eqb x b then 1 else 0

-- the places after the last comma. "No comma, no groups": 0
abbrev pub primary_of : List ℕ → ℕ
primary_of whole = if eqb (last 44 whole) 0 then 0 else length whole - last 44 whole

-- what stands before the last comma
abbrev pub front : List ℕ → List ℕ
front whole = take (last 44 whole - 1) whole

abbrev pub secondary_of : List ℕ → ℕ
secondary_of whole =
    if eqb (last 44 whole) 0 then 0 else
    if eqb (last 44 (front whole)) 0 then primary_of whole else
    primary_of (front whole)

-- ---- "Step: read the number part with `#` as 0 and commas dropped. If that is zero, the step is one unit of the last fraction place."

abbrev pub unit : ℕ → ℕ → ℕ
unit n b = if eqb b 35 then 10 * n else if is_digit b then 10 * n + (b - 48) else n

abbrev pub units_from : ℕ → List ℕ → ℕ
units_from n [] = n
units_from n (b ∷ s) = units_from (unit n b) s

-- in units of the last fraction place
abbrev pub step_of : List ℕ → ℕ
step_of n = let u = units_from 0 n in if eqb u 0 then 1 else u

-- ---- all of it: "Digits before the point are the least integer digits; digits after it the least fraction digits; all fraction places the most"

abbrev pub shape_of : List ℕ → Shape
shape_of n =
    record {
      fits = number_fits n;
      least = digits (whole_of n);
      whole = length (whole_of n) - count 44 44 (whole_of n);
      fraction = digits (fraction_of n);
      most = length (fraction_of n);
      primary = primary_of (whole_of n);
      secondary = secondary_of (whole_of n);
      step = step_of n;
    }

-- A step is worked out exactly below this bound and is kept at it from there on.
abbrev pub step_cap : ℕ
step_cap = 1000000

-- the shape with its step kept at the bound
abbrev pub capped : Shape → Shape
capped p =
    record {
      fits = p.fits;
      least = p.least;
      whole = p.whole;
      fraction = p.fraction;
      most = p.most;
      primary = p.primary;
      secondary = p.secondary;
      step = min p.step step_cap;
    }
