-- What the digit area holds: each bound once. They leave room for every admitted number and every pattern.
use Rattle.std.specs.Prelude.{Bool, false, List, ℕ, ◌*◌, ◌/◌, ltb, leb, length, if◌then◌else◌}
use Rattle.decimal.specs.Choice.{both}
use Rattle.decimal.specs.Digits.{figures}
use Rattle.nearest.specs.Nearest.{units_of}

-- the digits of a rounded value
abbrev pub width : ℕ
width = 41

abbrev pub max_integer : ℕ
max_integer = 1000000000000000000

abbrev pub max_places : ℕ
max_places = 9

abbrev pub max_fraction : ℕ
max_fraction = 1000000000

abbrev pub max_factor : ℕ
max_factor = 1000

abbrev pub max_step : ℕ
max_step = 999999

-- the largest value that the word engine takes
abbrev pub max_word : ℕ
max_word = 1000000000000000000

-- the operands are within the bounds, and there is a step
abbrev pub within : ℕ → ℕ → ℕ → ℕ → ℕ → ℕ → Bool
within step factor most i v f =
    if ltb step 1 then false else
    if ltb max_step step then false else
    if ltb max_factor factor then false else
    if ltb max_places most then false else
    if ltb max_integer i then false else
    if ltb max_places v then false else
    leb f max_fraction

-- the digit area behind: the digits of the rounded value, or what it held where it is too short or an operand is out of its bounds
abbrev pub rounded : ℕ → ℕ → ℕ → ℕ → ℕ → ℕ → List ℕ → List ℕ
rounded step factor most i v f area =
    if ltb (length area) width then area else
    if within step factor most i v f then figures (length area) (units_of step factor most i v f) else
    area

-- The value of i and of fraction digits of value f, in units of which `unit` make one, each taken `rise` times, has room in a word: so has i + 1.
abbrev pub in_word : ℕ → ℕ → ℕ → ℕ → Bool
in_word unit rise i f = both (leb f unit) (ltb i (max_word / (unit * rise)))
