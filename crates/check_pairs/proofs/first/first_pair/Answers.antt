-- `check_pairs::first::first_pair` stops at the first rule that one behind it clashes with. Invariant: the answer is that of the rules left.
use native.Mathlib.Omega.{arith}
use Rattle.std.specs.Prelude.{Err}
use mathlib.Core.Path.{ap, refl, sym, ◌∙◌}
use Rattle.pack_rules.specs.Stretch.{table_of}
use Rattle.check_laws.proofs.Answering.{rules_found, rules_more, rules_end}
use borrow.Author.Rules.{rules}
use Rattle.check_pairs.proofs.first.first_pair.Goals as goal

pub loop-k-init : goal.loop-k-init
loop-k-init c = refl

pub later_clash-c-requires : goal.later_clash-c-requires
later_clash-c-requires c =
    record {
      in_room = (c.loop-k-test.true, c.requires.in_room.0, c.requires.in_room.1);
      profiled_rules = c.requires.profiled_rules;
    }

pub of_rules-requires : goal.of_rules-requires
of_rules-requires c =
    (omega (arith, c.requires.in_room.0), omega (arith, c.requires.in_room.0))

pub returns-then-c-n : goal.returns-then-c-n
returns-then-c-n c =
    let a = c.args in
    let T = table_of a.pack.now in
    let r = c.later_clash-c in
    ap Err c.of_rules.ensures ∙ sym (c.loop-k.invariant ∙ rules_found T a.pack.now.relations a.pack.now.clauses a.n c.loop-k.k r.result.at r.result.spot (search rules) r.ensures.0 (search rules))

pub loop-k-preserved : goal.loop-k-preserved
loop-k-preserved c =
    let a = c.args in
    let T = table_of a.pack.now in
    let r = c.later_clash-c in
    c.loop-k.invariant ∙ rules_more T a.pack.now.relations a.pack.now.clauses a.n c.loop-k.k r.result.at r.result.spot (search rules) r.ensures.0 (search rules)

pub returns : goal.returns
returns c =
    let a = c.args in
    let T = table_of a.pack.now in
    sym (c.loop-k.invariant ∙ rules_end T a.pack.now.relations a.pack.now.clauses a.n c.loop-k.k (search rules))
