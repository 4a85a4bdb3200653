-- The relations that a search asks, by power of ten. Each asks a remainder of x by 1, 10, .. 10 ^ 6, or x itself; and each of these moduli divides the next.
use Rattle.std.specs.Prelude.{Bool, true, not, List, ℕ, zero, suc, ◌*◌, ◌%◌, ◌^◌, leb, eqb, if◌then◌else◌}
use Rattle.decimal.specs.Choice.{both}
use Rattle.decimal.specs.Lists.{all}
use Rattle.pack_rules.specs.Syntax.{Relation}
use Rattle.check_laws.specs.Fast.{Query, factor, asked, listed}

-- the levels 0 to 6 are those of remainders by 10 ^ 0 to 10 ^ 6
abbrev pub levels : ℕ
levels = 7

-- the level of a relation of x itself, and that of one whose modulus fits no other
abbrev pub window : ℕ
window = 7

abbrev pub stray : ℕ
stray = 8

-- The level of a relation of x * s with the modulus w. A remainder by w of x * s, where w is 10 ^ j * s, is s times that of x by 10 ^ j; where w divides s it is 0.
unfoldable pub level_of : ℕ → ℕ → ℕ
level_of s w =
    if eqb w 0 then window else
    if leb w s then (if eqb (s % w) 0 then 0 else stray) else
    if eqb w (10 * s) then 1 else
    if eqb w (100 * s) then 2 else
    if eqb w (1_000 * s) then 3 else
    if eqb w (10_000 * s) then 4 else
    if eqb w (100_000 * s) then 5 else
    if eqb w (1_000_000 * s) then 6 else
    stray

abbrev pub level_in : Query → Relation → ℕ
level_in q r = level_of (factor q r.operand) r.modulus

-- what a relation asks at level j of a remainder x, or at `window` of a number x
unfoldable pub own_one : Query → ℕ → Relation → ℕ → Bool
own_one q j r x = if both (asked q r) (eqb (level_in q r) j) then listed r (x * factor q r.operand) else true

-- "the last digit is not 0" is asked at level 1
unfoldable pub last_digit : Query → ℕ → ℕ → Bool
last_digit q j x = if both q.odd (eqb j 1) then not (eqb x 0) else true

-- what a clause asks there
unfoldable pub own : Query → List Relation → ℕ → ℕ → Bool
own q c j x = both (last_digit q j x) (all (λ (r : Relation). own_one q j r x) c)

-- what it asks of x at the levels below j
unfoldable pub below : Query → List Relation → ℕ → ℕ → Bool
below q c zero x = true
below q c (suc j) x = both (own q c j (x % 10 ^ j)) (below q c j x)

-- no relation that is asked is stray
unfoldable pub levelled : Query → List Relation → Bool
levelled q c = all (λ (r : Relation). if asked q r then not (eqb (level_in q r) stray) else true) c
