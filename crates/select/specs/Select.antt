-- Selection: document 01, "Selection asks how many rules a number meets, and which is first: none gives `other`, one gives its keyword, more is
-- refusal 27 with the first two."
use Rattle.answer.specs.declared.Refusal.{Refusal}
use Rattle.std.specs.Prelude.{Err, Ok, Result, Bool, true, false, List, [], ◌∷◌, ℕ, zero, suc, ◌+◌, ◌*◌, eqb, drop, if◌then◌else◌}
use Rattle.answer.specs.declared.Keyword.{Keyword}
use Rattle.answer.specs.declared.Keyword.TheVariants.{Other}
use Rattle.answer.specs.declared.Pair.{Pair}
use Rattle.answer.specs.declared.Refusal.TheVariants.{Rules as OfRules}
use Rattle.answer.specs.declared.RulesRow.TheVariants.{TwoRulesMet}
use Rattle.number.specs.declared.Number.{Number}
use Rattle.pack_rules.specs.Syntax.{Rule}
use Rattle.meaning.specs.Meaning.{meets}

-- which rules the number meets, in the order of the text
abbrev pub met_by : List Rule → Number → List Bool
met_by [] x = []
met_by (r ∷ rs) x = meets r x ∷ met_by rs x

abbrev pub bit : Bool → ℕ
bit true = 1
bit false = 0

-- "Met rules are bits": the first rule is the lowest
unfoldable pub mask_of : List Bool → ℕ
mask_of [] = 0
mask_of (b ∷ bs) = bit b + 2 * mask_of bs

-- how many rules are met
abbrev pub count_met : List Bool → ℕ
count_met [] = 0
count_met (b ∷ bs) = bit b + count_met bs

-- which is first, counted from 0; the number of rules where none is met
abbrev pub first_met : List Bool → ℕ
first_met [] = 0
first_met (true ∷ bs) = 0
first_met (false ∷ bs) = suc (first_met bs)

-- and which is the first behind it
abbrev pub second_met : List Bool → ℕ
second_met bs = first_met bs + 1 + first_met (drop (first_met bs + 1) bs)

abbrev pub keyword_at : List Rule → ℕ → Keyword
keyword_at [] k = Other
keyword_at (r ∷ rs) zero = r.keyword
keyword_at (r ∷ rs) (suc k) = keyword_at rs k

-- "places counted from 1 in the text with `other` counted"
abbrev pub pair_of : List Bool → Pair
pair_of bs = record { first = first_met bs + 1; second = second_met bs + 1 }

abbrev pub chosen : List Rule → List Bool → Result Keyword Refusal
chosen rules bs =
    if eqb (count_met bs) 0 then Ok Other else
    if eqb (count_met bs) 1 then Ok (keyword_at rules (first_met bs)) else
    Err (OfRules (TwoRulesMet (pair_of bs)))

abbrev pub selection : List Rule → Number → Result Keyword Refusal
selection rules x = chosen rules (met_by rules x)
