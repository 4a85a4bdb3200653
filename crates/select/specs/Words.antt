-- The word of a number, said of the rules it meets and not of counts or bits.
use Rattle.answer.specs.declared.Refusal.{Refusal}
use Rattle.std.specs.Prelude.{Err, Ok, Result, ◌≡◌, true, List, ◌∷◌, ◌⊎◌, ℕ, suc, ◌+◌, ◌≤◌, ◌<◌}
use Rattle.answer.specs.declared.Keyword.{Keyword}
use Rattle.answer.specs.declared.Keyword.TheVariants.{Other}
use Rattle.answer.specs.declared.Refusal.TheVariants.{Rules as OfRules}
use Rattle.answer.specs.declared.RulesRow.TheVariants.{TwoRulesMet}
use Rattle.number.specs.declared.Number.{Number}
use Rattle.pack_rules.specs.Syntax.{Rule}
use Rattle.meaning.specs.Meaning.{meets}

-- the number meets the rule at place k, counted from 0, whose keyword is w
pub data MeetsAt (x : Number) : List Rule → ℕ → Keyword → Type 0 where
  here : {r : Rule} {rs : List Rule} → meets r x ≡ true → MeetsAt x (r ∷ rs) 0 r.keyword
  there : {r : Rule} {rs : List Rule} {k : ℕ} {w : Keyword} → MeetsAt x rs k w → MeetsAt x (r ∷ rs) (suc k) w

-- "none gives `other`, one gives its keyword, more is refusal 27 with the first two", places counted from 1
pub data Chosen (x : Number) (rules : List Rule) : Result Keyword Refusal → Type 0 where
  none : ((k : ℕ) (w : Keyword) → MeetsAt x rules k w → ⊥) → Chosen x rules (Ok Other)
  one : (k : ℕ) (w : Keyword) → MeetsAt x rules k w → ((j : ℕ) (u : Keyword) → MeetsAt x rules j u → j ≡ k) → Chosen x rules (Ok w)
  two : (a b : ℕ) (w u : Keyword) → MeetsAt x rules a w → MeetsAt x rules b u → a < b
      → ((j : ℕ) (q : Keyword) → MeetsAt x rules j q → (j ≡ a) ⊎ (b ≤ j))
      → Chosen x rules (Err (OfRules (TwoRulesMet (record { first = a + 1; second = b + 1 }))))
