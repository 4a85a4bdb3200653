-- Document 01, "Admitted numbers": each limit once.
use Rattle.std.specs.Prelude.{ℕ}

-- "at most 64 bytes"
abbrev pub max_bytes : ℕ
max_bytes = 64

-- "e at most 14"
abbrev pub max_exponent : ℕ
max_exponent = 14

-- "after the shift i is below 10^15": so many digits, leading zeros dropped
abbrev pub max_digits : ℕ
max_digits = 15

-- "v is at most 9"
abbrev pub max_places : ℕ
max_places = 9
