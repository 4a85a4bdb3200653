-- `check_plain::check`: the pairs in turn are those of the rules that the pack holds.
use mathlib.Core.List.{List}
use Prim.Native.Nat.{ℕ}
use Rattle.answer.specs.declared.Keyword.TheVariants.{Other}
use Rattle.pack_rules.specs.Syntax.{Relation}
use Rattle.check_laws.specs.Check.{clash_of}
use Rattle.check_laws.proofs.Holding.{held_by}
use borrow.Author.Rules.{rules}
use Rattle.check_plain.proofs.check.Goals as goal

-- the rank of a pair by its clauses
abbrev clauses-clash : List (List Relation) → List (List Relation) → ℕ
clauses-clash a b = clash_of (record { keyword = Other; clauses = a }) (record { keyword = Other; clauses = b })

pub returns : goal.returns
returns c =
    let a = c.args in
    let n = c.min-n in
    held_by clauses-clash (a.pack.now) n.result c.first_pair.result
    (record {
      low = (search rules);
      high = (search rules);
      columns = (search rules);
      relations = (search rules);
      keyword = (search rules);
      clauses = (search rules);
    })
    n.ensures c.first_pair.ensures
