-- Document 01's words about packs, on bytes.
use Rattle.answer.specs.declared.Refusal.{Refusal}
use Rattle.std.specs.Prelude.{Ok, Result, ◌≡◌, ℕ}
use mathlib.Core.List.{List, ◌++◌, Permᴰ}
use Rattle.answer.specs.declared.Keyword.{Keyword}
use Rattle.answer.specs.declared.Keyword.TheVariants.{Other}
use Rattle.number.specs.declared.Number.{Number}
use Rattle.pack_rules.specs.Syntax.{Rule}
use Rattle.pack_grammar.specs.Reader.{segments}
use Rattle.select.specs.Words.{MeetsAt}
use Rattle.select_text.specs.Select.{select_of}
use Rattle.check_text.specs.Check.{check_pack}
use Rattle.demands.specs.Verdicts.{NumberVerdict, SelectVerdict}

-- "A passed pack is one the check doesn't refuse."
abbrev pub Passed : List ℕ → Type 0
Passed pack = check_pack pack ≡ Ok tt

-- "A shuffle of a pack holds the same rules in any order, each with all the bytes it had between its semicolons or the pack's ends."
abbrev pub Shuffle : List ℕ → List ℕ → Type 0
Shuffle pack other = Permᴰ (segments pack) (segments other)

-- "A larger pack holds all rules of the smaller, byte for byte likewise and in any order, and besides them rules": `added` are the segments of those.
-- That their keywords are others follows where the larger pack is read, since 25 refuses a keyword that is repeated.
abbrev pub Larger : List ℕ → List (List ℕ) → List ℕ → Type 0
Larger smaller added larger = Permᴰ (segments smaller ++ added) (segments larger)

-- The number's text is due `other` under the smaller pack and meets the added rule k, whose keyword is w.
pub record MeetsAdded (smaller number : List ℕ) (added : List Rule) (k : ℕ) (w : Keyword) : Type 0 where
  pub had_other : SelectVerdict smaller number (Ok Other)
  pub operands : Number
  pub number_read : NumberVerdict number (Ok operands)
  pub meets_it : MeetsAt operands added k w

-- "if a larger pack passes too, every admitted number keeps its word, except that one which had "other" and meets an added rule has that rule's word": what
-- is answered under the larger pack, by what is due under the smaller
pub record Grown (smaller larger number : List ℕ) (added : List Rule) : Type 0 where
  pub named : (k : ℕ) (w : Keyword) → MeetsAdded smaller number added k w → select_of larger number ≡ Ok w
  -- refused numbers among them
  pub kept : ((k : ℕ) (w : Keyword) → MeetsAdded smaller number added k w → ⊥) → (c : Result Keyword Refusal) → SelectVerdict smaller number c → select_of larger number ≡ c
