-- Laws of a text that is written piece by piece: digits with group symbols among them.
use mathlib.Core.Path.{◌≡◌, refl}
use mathlib.Core.List.{List, [], ◌++◌, append_assoc}
use Prim.Native.Nat.{ℕ, suc, ◌+◌, ◌-◌, ◌≤◌, ◌<◌}
use native.Mathlib.Omega.{arith}
use native.Mathlib.Numerals.{add-one}
use borrow.Author.Tests.{lt-ltb, le-ltb}
use lib.Dec.{ltb}
use lib.ListN.{length, get_or, drop, drop_of_length-le, length-drop}
use lib.Seq.{drop-cons}
use Rattle.std.specs.Prelude.{if◌then◌else◌}
use Rattle.decimal.proofs.Choices.{tested}
use Rattle.area.specs.Area.{Wrote, most}
use Rattle.symbols.specs.declared.Symbol.{Symbol}
use Rattle.symbols.specs.declared.Symbol.TheVariants.{Decimal, Group}
use Rattle.pattern_reader.specs.declared.Pattern.{Pattern}
use Rattle.layout.specs.Layout.{whole_digits, fraction_digits, zero_digit, spell, mark, group_size, grouped, body}
use Rattle.layout.specs.Text.{minimum_in, number_text}

-- nothing is written
pub nothing : (o : List ℕ) (a : ℕ) → a ≤ most → Wrote o a [] o a
nothing o a h = record { area = refl; next = omega arith }

-- ---- groups

-- one place: a digit, and a group symbol where one stands behind it
abbrev pub place : ℕ → List ℕ → ℕ → ℕ → List ℕ → ℕ → List ℕ
place nought g p q d i = spell nought (get_or d i 0) ++ (if mark p q (length d - (i + 1)) then g else [])

pub grouped_step : (nought : ℕ) (g : List ℕ) (p q : ℕ) (d : List ℕ) (i : ℕ) → i < length d
    → grouped nought g p q (drop i d) ≡ place nought g p q d i ++ grouped nought g p q (drop (i + 1) d)
grouped_step nought g p q d i h = rw (drop-cons d i 0 h, length-drop (suc i) d, add-one, append_assoc)

pub grouped_end : (nought : ℕ) (g : List ℕ) (p q : ℕ) (d : List ℕ) (i : ℕ) → length d ≤ i → grouped nought g p q (drop i d) ≡ []
grouped_end nought g p q d i h = rw (drop_of_length-le d h)

-- ---- the primary size

pub size_none : (minimum digits : ℕ) → 0 ≡ group_size minimum 0 digits
size_none minimum digits = tested (ltb digits (0 + minimum)) (λ k. rw k) (λ k. rw k)

pub size_few : (minimum primary digits : ℕ) → digits < primary + minimum → 0 ≡ group_size minimum primary digits
size_few minimum primary digits h = rw (lt-ltb digits (primary + minimum) h)

pub size_many : (minimum primary digits : ℕ) → primary + minimum ≤ digits → primary ≡ group_size minimum primary digits
size_many minimum primary digits h = rw (le-ltb digits (primary + minimum) h)

-- the parts under the definition's names
pub number_is : (symbol : Symbol → List ℕ) (p : Pattern) (d group point whole fraction : List ℕ) (size : ℕ) → group ≡ symbol Group → point ≡ symbol Decimal
    → whole ≡ whole_digits p.least p.most d → size ≡ group_size (minimum_in symbol) p.primary (length whole)
    → fraction ≡ fraction_digits p.fraction p.most d
    → body zero_digit point group size p.secondary whole fraction ≡ number_text symbol p d
number_is symbol p d group point whole fraction size eg ep ew es ef = rw (eg, ep, es, ew, ef)
