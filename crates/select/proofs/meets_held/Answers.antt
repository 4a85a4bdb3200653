-- `select::meets_held` asks the rule at a place within the arrays; past them there is none.
use mathlib.Core.Path.{◌∙◌}
use Prim.Native.Nat.{◌≤◌}
use lib.ListN.{length}
use borrow.Author.Rules.{rules}
use Rattle.pack_rules.specs.Stretch.{table_of}
use Rattle.meaning.proofs.Meanings.{past_none}
use Rattle.select.proofs.meets_held.Goals as goal

pub returns-else-is_some : goal.returns-else-is_some
returns-else-is_some c =
    let a = c.args in
    let h : length a.pack.now.clauses ≤ a.j = search rules in
    c.if-is_some.false ∙ past_none (table_of a.pack.now) a.pack.now.relations a.pack.now.clauses a.x a.j h
