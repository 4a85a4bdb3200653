-- Document 01, "The rule pack", as syntax: what is left of a pack's text once it is read.
use Rattle.std.specs.Prelude.{Bool, List, ℕ}
use Rattle.answer.specs.declared.Keyword.{Keyword}

-- "values or ranges `a..b`": a value a is the range a..a
pub record Range : Type 0 where
  pub low : ℕ
  pub high : ℕ

-- "an operand (n i f t v w c e), optionally `%` and a modulus, then `=` or `!=`, then values or ranges": the operand is its letter, and the modulus
-- is 0 where none is written
pub record Relation : Type 0 where
  pub operand : ℕ
  pub modulus : ℕ
  pub negated : Bool
  pub ranges : List Range

-- "A rule is a keyword, `:` and a condition"; "a condition is clauses joined by `or`; a clause is relations joined by `and`". `other:` has no clause.
pub record Rule : Type 0 where
  pub keyword : Keyword
  pub clauses : List (List Relation)
