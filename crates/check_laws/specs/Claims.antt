-- What is claimed of the check's answer, in document 01's words.
use Rattle.check_laws.specs.declared.Clash.{Clash}
use Rattle.std.specs.Prelude.{Result, Ok, Err}
use Rattle.std.specs.Prelude.{◌≡◌, true, List, [], ◌⊎◌, ℕ, ◌+◌, ◌<◌, length, get_or}
use Rattle.answer.specs.declared.Keyword.TheVariants.{Other}
use Rattle.answer.specs.declared.Witness.{Witness}
use Rattle.number.specs.Admitted.{Admitted}
use Rattle.pack_rules.specs.Syntax.{Rule}
use Rattle.meaning.specs.Meaning.{meets}
use Rattle.check_laws.specs.Check.{number_at}

abbrev pub IsAdmitted : Witness → Type 0
IsAdmitted x = Admitted x.e x.v.0 x.i x.f.0

-- an admitted number meets both rules
pub record MeetsBoth (a b : Rule) (x : Witness) : Type 0 where
  pub admitted : IsAdmitted x
  pub first : meets a (number_at x) ≡ true
  pub second : meets b (number_at x) ≡ true

-- no admitted number does
abbrev pub Apart : Rule → Rule → Type 0
Apart a b = (x : Witness) → MeetsBoth a b x → ⊥

-- "the least by e, then v, then i, then f": x comes before y
abbrev pub Before : Witness → Witness → Type 0
Before x y =
    (x.e < y.e) ⊎ ((x.e ≡ y.e) ×
    ((x.v.0 < y.v.0) ⊎ ((x.v.0 ≡ y.v.0) ×
    ((x.i < y.i) ⊎ ((x.i ≡ y.i) × (x.f.0 < y.f.0))))))

-- the rules of a pack by index: the rule at place 1 in the text has index 0
abbrev pub rule_at : List Rule → ℕ → Rule
rule_at rs i = get_or rs i (record { keyword = Other; clauses = [] })

-- no two rules of the pack are met by one admitted number
abbrev pub AllApart : List Rule → Type 0
AllApart rs = (i j : ℕ) → i < j → j < length rs → Apart (rule_at rs i) (rule_at rs j)

-- "the lowest first rule, then the lowest second", and x the least number that meets both
pub record Lowest (rs : List Rule) (i j : ℕ) (x : Witness) : Type 0 where
  pub order : i < j
  pub inside : j < length rs
  pub met : MeetsBoth (rule_at rs i) (rule_at rs j) x
  pub least : (y : Witness) → MeetsBoth (rule_at rs i) (rule_at rs j) y → (y ≡ x) ⊎ Before x y
  pub first : (k l : ℕ) → k < l → l < length rs → (k < i) ⊎ ((k ≡ i) × (l < j)) → Apart (rule_at rs k) (rule_at rs l)

-- what an answer claims of the rules that stand from place p on
abbrev pub Claims : ℕ → List Rule → Result (Unit {0}) Clash → Type 0
Claims p rs (Ok tt) = AllApart rs
Claims p rs (Err c) = (i : ℕ) × (j : ℕ) × (c.pair.first ≡ p + i) × (c.pair.second ≡ p + j) × Lowest rs i j c.witness
