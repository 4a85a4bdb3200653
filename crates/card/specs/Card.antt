-- Document 01, "Numbers on the bench card": "Starred ones are shown by proof from the definitions, as rows of a single list under a single claim".
use Rattle.answer.specs.declared.Keyword.{Keyword}
use Rattle.number.specs.declared.Number.{Number}
use Rattle.answer.specs.declared.Refusal.{Refusal}
use Rattle.std.specs.Prelude.{Err, Ok, Result, ◌≡◌, false, List, [], ◌∷◌, ℕ}
use Rattle.answer.specs.declared.Keyword.TheVariants.{Few, Other}
use Rattle.number.specs.Reading.{read_number}
use Rattle.answer.specs.declared.Refusal.TheVariants.{Rules as OfRules}
use Rattle.answer.specs.declared.RulesRow.TheVariants.{RulesClash}
use Rattle.check_text.specs.Check.{check_pack}
use Rattle.select_text.specs.Select.{select_of}
use Rattle.print.specs.Outcome.{outcome}
use Rattle.print.specs.Outcome.Outcome.{text}

-- A row of the card: what is asked, and the answer that the card gives.
pub data Row : Type 0 where
  operands : (number : List ℕ) → Result Number Refusal → Row
  word : (pack number : List ℕ) → Result Keyword Refusal → Row
  passed : (pack : List ℕ) → Row
  clash : (pack : List ℕ) (first second e v i f : ℕ) → Row
  prints : (pattern number shown : List ℕ) → Row

-- the row's answer is that of the definitions
abbrev pub Right : Row → Type 0
Right (operands number r) = read_number number ≡ r
Right (word pack number s) = select_of pack number ≡ s
Right (passed pack) = check_pack pack ≡ Ok tt
Right (clash pack first second e v i f) = check_pack pack ≡ Err (OfRules (RulesClash (record { first = first; second = second }) (record { e = e; v = record { 0 = v }; i = i; f = record { 0 = f } })))
Right (prints pattern number shown) = outcome [] pattern number ≡ text shown

abbrev pub All : List Row → Type 0
All [] = Unit {0}
All (row ∷ rows) = Right row × All rows

-- a positive number with these operands, in the order of the card
abbrev pub positive : ℕ → ℕ → ℕ → ℕ → ℕ → ℕ → Result Number Refusal
positive i v w f t e =
    Ok (record {
      negative = false;
      e = e;
      i = i;
      v = record { 0 = v };
      f = record { 0 = f };
      w = record { 0 = w };
      t = record { 0 = t };
    })

-- "one: n = 1; few: n = 2..4"
abbrev pub few_pack : List ℕ
few_pack =
    111 ∷ 110 ∷ 101 ∷ 58 ∷ 32 ∷ 110 ∷ 32 ∷ 61 ∷ 32 ∷ 49 ∷ 59 ∷ 32 ∷ 102 ∷ 101 ∷ 119 ∷ 58 ∷ 32 ∷ 110 ∷ 32 ∷ 61 ∷ 32 ∷ 50 ∷ 46 ∷ 46 ∷ 52 ∷ []

-- "one: n = 1; few: n % 10 = 1..3"
abbrev pub tens_pack : List ℕ
tens_pack =
    111 ∷ 110 ∷ 101 ∷ 58 ∷ 32 ∷ 110 ∷ 32 ∷ 61 ∷ 32 ∷ 49 ∷ 59 ∷ 32 ∷ 102 ∷ 101 ∷ 119 ∷ 58 ∷ 32 ∷ 110 ∷ 32 ∷ 37 ∷ 32 ∷ 49 ∷ 48 ∷ 32 ∷ 61 ∷ 32 ∷ 49 ∷ 46 ∷ 46 ∷ 51 ∷ []

-- "one: t = 5; two: f = 50"
abbrev pub trailing_pack : List ℕ
trailing_pack =
    111 ∷ 110 ∷ 101 ∷ 58 ∷ 32 ∷ 116 ∷ 32 ∷ 61 ∷ 32 ∷ 53 ∷ 59 ∷ 32 ∷ 116 ∷ 119 ∷ 111 ∷ 58 ∷ 32 ∷ 102 ∷ 32 ∷ 61 ∷ 32 ∷ 53 ∷ 48 ∷ []

-- "one: i != 0..999999; two: i % 10 = 7"
abbrev pub seven_pack : List ℕ
seven_pack =
    111 ∷ 110 ∷ 101 ∷ 58 ∷ 32 ∷ 105 ∷ 32 ∷ 33 ∷ 61 ∷ 32 ∷ 48 ∷ 46 ∷ 46 ∷ 57 ∷ 57 ∷ 57 ∷ 57 ∷ 57 ∷ 57 ∷ 59 ∷ 32 ∷ 116 ∷ 119 ∷ 111 ∷ 58 ∷ 32 ∷ 105 ∷ 32 ∷ 37 ∷ 32 ∷ 49 ∷ 48 ∷ 32 ∷ 61 ∷ 32 ∷ 55 ∷ []

abbrev pub rows : List Row
rows =
    -- "1.20050c3: i 1200, v 2, w 1, f 50, t 5, e 3"
    operands (49 ∷ 46 ∷ 50 ∷ 48 ∷ 48 ∷ 53 ∷ 48 ∷ 99 ∷ 51 ∷ []) (positive 1200 2 1 50 5 3)
    -- "1.0: i 1, v 1, f 0"
    ∷ operands (49 ∷ 46 ∷ 48 ∷ []) (positive 1 1 0 0 0 0)
    -- "`one: i = 1 and v = 0`: [..] 1.0 other"
    ∷ word (111 ∷ 110 ∷ 101 ∷ 58 ∷ 32 ∷ 105 ∷ 32 ∷ 61 ∷ 32 ∷ 49 ∷ 32 ∷ 97 ∷ 110 ∷ 100 ∷ 32 ∷ 118 ∷ 32 ∷ 61 ∷ 32 ∷ 48 ∷ []) (49 ∷ 46 ∷ 48 ∷ []) (Ok Other)
    -- "`one: n = 1; few: n = 2..4`: 3.0 few, passes"
    ∷ word few_pack (51 ∷ 46 ∷ 48 ∷ []) (Ok Few)
    ∷ passed few_pack
    -- "`one: n = 1; few: n % 10 = 1..3`: 27, pair 1 2, 0 0 1 0"
    ∷ clash tens_pack 1 2 0 0 1 0
    -- "`one: t = 5; two: f = 50`: 0 2 0 50"
    ∷ clash trailing_pack 1 2 0 2 0 50
    -- "`one: i != 0..999999; two: i % 10 = 7`: 0 0 1000007 0"
    ∷ clash seven_pack 1 2 0 0 1000007 0
    -- "`0.0`: * 0.349 gives 0.3, * 0.35 gives 0.4, * 0.25 gives 0.2"
    ∷ prints (48 ∷ 46 ∷ 48 ∷ []) (48 ∷ 46 ∷ 51 ∷ 52 ∷ 57 ∷ []) (48 ∷ 46 ∷ 51 ∷ [])
    ∷ prints (48 ∷ 46 ∷ 48 ∷ []) (48 ∷ 46 ∷ 51 ∷ 53 ∷ []) (48 ∷ 46 ∷ 52 ∷ [])
    ∷ prints (48 ∷ 46 ∷ 48 ∷ []) (48 ∷ 46 ∷ 50 ∷ 53 ∷ []) (48 ∷ 46 ∷ 50 ∷ [])
    -- "`0.65`: * 1.234 and 1.625 give 1.30"
    ∷ prints (48 ∷ 46 ∷ 54 ∷ 53 ∷ []) (49 ∷ 46 ∷ 50 ∷ 51 ∷ 52 ∷ []) (49 ∷ 46 ∷ 51 ∷ 48 ∷ [])
    ∷ prints (48 ∷ 46 ∷ 54 ∷ 53 ∷ []) (49 ∷ 46 ∷ 54 ∷ 50 ∷ 53 ∷ []) (49 ∷ 46 ∷ 51 ∷ 48 ∷ [])
    -- "* `#,##,##0`: 1234567 gives 12,34,567"
    ∷ prints (35 ∷ 44 ∷ 35 ∷ 35 ∷ 44 ∷ 35 ∷ 35 ∷ 48 ∷ []) (49 ∷ 50 ∷ 51 ∷ 52 ∷ 53 ∷ 54 ∷ 55 ∷ []) (49 ∷ 50 ∷ 44 ∷ 51 ∷ 52 ∷ 44 ∷ 53 ∷ 54 ∷ 55 ∷ [])
    ∷ []
