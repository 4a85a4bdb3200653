-- Document 01's bounds of a pattern: each once.
use Rattle.std.specs.Prelude.{ℕ}

-- 30: "pattern over 256 bytes"
abbrev pub max_bytes : ℕ
max_bytes = 256

-- 34: "over 15 integer or 9 fraction places"
abbrev pub max_whole : ℕ
max_whole = 15

abbrev pub max_fraction : ℕ
max_fraction = 9

-- 35: "step above 999,999 units of the last place"
abbrev pub max_step : ℕ
max_step = 999999
