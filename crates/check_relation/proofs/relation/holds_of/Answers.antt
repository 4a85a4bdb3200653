-- `check_relation::relation::holds_of`: the run of a remainder says what the relation says of it.
use mathlib.Core.Path.{◌≡◌}
use Prim.Native.Nat.{◌%◌}
use borrow.Author.Rules.{rules}
use Rattle.pack_rules.specs.Stretch.{relation_by}
use Rattle.check_relation.proofs.Levelling.{listed_test}
use Rattle.check_relation.proofs.relation.holds_of.Goals as goal

pub returns : goal.returns
returns c =
    let a = c.args in
    let l = c.listed_run in
    let e : c.unwrap_or-rest.result ≡ a.x % a.s.modulus = search rules in
    listed_test (relation_by a.pack.now.low a.pack.now.high a.s) a.x c.unwrap_or-rest.result l.result.stop l.result.says e l.ensures.alike
