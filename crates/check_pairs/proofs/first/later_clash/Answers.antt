-- `check_pairs::first::later_clash` stops at the first that clashes. Invariant: the rules passed do not clash.
use native.Mathlib.Omega.{arith}
use mathlib.Core.Path.{refl, ◌∙◌}
use Rattle.pack_rules.specs.Stretch.{table_of}
use Rattle.check_laws.proofs.Answering.{behind_more, behind_found, behind_none}
use borrow.Author.Rules.{rules}
use Rattle.check_pairs.proofs.first.later_clash.Goals as goal

pub loop-q-init : goal.loop-q-init
loop-q-init c = (omega (arith, c.requires.in_room.0), λ rest. refl)

pub pair_spot-spot-requires : goal.pair_spot-spot-requires
pair_spot-spot-requires c =
    let p = c.requires in
    let a = c.args in
    record {
      in_room = (omega (arith, p.in_room.0, p.in_room.1), omega (arith, p.in_room.1, c.loop-q-test.true), p.in_room.2);
      profiled = (p.profiled_rules a.p p.in_room.0, p.profiled_rules c.loop-q.q c.loop-q-test.true);
    }

pub returns-then-spot-lt-NO_EXPONENT : goal.returns-then-spot-lt-NO_EXPONENT
returns-then-spot-lt-NO_EXPONENT c =
    let a = c.args in
    let T = table_of a.pack.now in
    let s = c.pair_spot-spot in
    (λ rest. c.loop-q.invariant.1 rest ∙ behind_found T a.pack.now.relations a.pack.now.clauses a.p a.n c.loop-q.q s.result (search rules) s.ensures.0 s.ensures.1 (search rules) rest, λ _. search rules, s.ensures.1)

pub loop-q-preserved : goal.loop-q-preserved
loop-q-preserved c =
    let a = c.args in
    let T = table_of a.pack.now in
    let s = c.pair_spot-spot in
    (omega arith, λ rest. c.loop-q.invariant.1 rest ∙ behind_more T a.pack.now.relations a.pack.now.clauses a.p a.n c.loop-q.q s.result (search rules) s.ensures.0 (search rules) rest)

pub returns : goal.returns
returns c =
    let a = c.args in
    let T = table_of a.pack.now in
    (λ rest. c.loop-q.invariant.1 rest ∙ behind_none T a.pack.now.relations a.pack.now.clauses a.p a.n c.loop-q.q c.nowhere.result (search rules) rest, λ h. absurd (omega arith), c.nowhere.ensures.1)
