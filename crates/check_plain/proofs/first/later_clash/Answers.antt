-- `check_plain::first::later_clash` stops at the first that clashes. Invariant: the rules passed do not clash.
use native.Mathlib.Omega.{arith}
use mathlib.Core.Path.{refl, ◌∙◌}
use Rattle.pack_rules.specs.Stretch.{table_of}
use Rattle.check_laws.specs.Check.{clash_of}
use Rattle.check_laws.proofs.Turns.{behind_more, behind_found, behind_none}
use borrow.Author.Rules.{rules}
use Rattle.check_plain.proofs.first.later_clash.Goals as goal

pub loop-q-init : goal.loop-q-init
loop-q-init c = (omega (arith, c.requires.0), λ rest. refl)

pub returns-then-spot-lt-NO_EXPONENT : goal.returns-then-spot-lt-NO_EXPONENT
returns-then-spot-lt-NO_EXPONENT c =
    let a = c.args in
    let T = table_of a.pack.now in
    let s = c.try_all-spot in
    (λ rest. c.loop-q.invariant.1 rest ∙ behind_found clash_of T a.pack.now.relations a.pack.now.clauses a.p a.n c.loop-q.q s.result (search rules) s.ensures.0 s.ensures.1 (search rules) rest, λ _. search rules, s.ensures.1)

pub loop-q-preserved : goal.loop-q-preserved
loop-q-preserved c =
    let a = c.args in
    let T = table_of a.pack.now in
    let s = c.try_all-spot in
    (omega arith, λ rest. c.loop-q.invariant.1 rest ∙ behind_more clash_of T a.pack.now.relations a.pack.now.clauses a.p a.n c.loop-q.q s.result (search rules) s.ensures.0 (search rules) rest)

pub returns : goal.returns
returns c =
    let a = c.args in
    let T = table_of a.pack.now in
    (λ rest. c.loop-q.invariant.1 rest ∙ behind_none clash_of T a.pack.now.relations a.pack.now.clauses a.p a.n c.loop-q.q c.nowhere.result (search rules) rest, λ h. absurd (omega arith), c.nowhere.ensures.1)
