-- Segments of numbers in rising order, and the next number of a level: of a test of remainders by m over tests that repeat sooner.
use Rattle.std.specs.Prelude.{◌≡◌, Bool, true, false, List, [], ◌∷◌, ℕ, suc, ◌+◌, ◌-◌, ◌%◌, ◌≤◌, ◌<◌, leb, ltb, if◌then◌else◌}
use Prim.{Unit}
use Rattle.decimal.specs.Choice.{both, either}

-- the numbers from `from` to `to`, both included
pub record Segment : Type 0 where
  pub from : ℕ
  pub to : ℕ

abbrev pub segment : ℕ → ℕ → Segment
segment a b = record { from = a; to = b }

abbrev pub within : Segment → ℕ → Bool
within s x = both (leb s.from x) (leb x s.to)

-- x lies in one of the segments
unfoldable pub inside : List Segment → ℕ → Bool
inside [] x = false
inside (s ∷ l) x = either (within s x) (inside l x)

-- none is empty, each lies after the one before it, and all lie from k on and below m
unfoldable pub Rising : ℕ → ℕ → List Segment → Type 0
Rising k m [] = k ≤ m
Rising k m (s ∷ l) = (k ≤ s.from) × (s.from ≤ s.to) × Rising (suc s.to) m l

-- the first number of each segment passes P
unfoldable pub Starts : (ℕ → Bool) → List Segment → Type 0
Starts P [] = Unit {0}
Starts P (s ∷ l) = (P s.from ≡ true) × Starts P l

-- where the first segment starts, or m
unfoldable pub first : List Segment → ℕ → ℕ
first [] m = m
first (s ∷ l) m = s.from

-- The least remainder from r on, or m where there is none; z is the next number from r on of the tests below.
unfoldable pub up_to : List Segment → ℕ → ℕ → ℕ → ℕ
up_to [] m r z = m
up_to (s ∷ l) m r z =
    if ltb s.to r then up_to l m r z else
    if leb r s.from then s.from else
    if leb z s.to then z else first l m

-- a remainder o, or where it is m the first one of the next block
unfoldable pub wrap : List Segment → ℕ → ℕ → ℕ
wrap l m o = if ltb o m then o else m + first l m

-- the next number from x on of the level; y is that of the tests below
unfoldable pub climb : List Segment → ℕ → ℕ → ℕ → ℕ
climb l m x y = x - x % m + wrap l m (up_to l m (x % m) (y - (x - x % m)))

-- The segments l are those of the test P of remainders by m over the tests Q below it: P is Q within them, and each starts with a number that passes.
pub record Level (P Q : ℕ → Bool) (m : ℕ) (l : List Segment) : Type 0 where
  pub rising : Rising 0 m l
  pub starts : Starts Q l
  pub full : first l m < m
  pub agree : (x : ℕ) → x < m → P x ≡ both (inside l x) (Q x)
  pub repeats : (x : ℕ) → P (x % m) ≡ P x
  pub sooner : (x : ℕ) → Q (x % m) ≡ Q x
