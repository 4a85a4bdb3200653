-- `check_table::find::find` looks on until a number is found. Invariant: none before p passes; the runs kept are right.
use native.Mathlib.Omega.{arith}
use Rattle.check_table.proofs.Finding.{none_to, opens_found, opens_none}
use Rattle.check_table.proofs.find.find.Goals as goal

pub loop-p-init : goal.loop-p-init
loop-p-init c = (omega arith, λ x a b. absurd (omega arith), c.requires.kept)

pub look-f-requires : goal.look-f-requires
look-f-requires c =
    let p = c.requires in
    let i = c.loop-p.invariant in
    record {
      fit = (p.fit.0, p.fit.1, omega (arith, c.loop-p-test.true), p.fit.3, p.fit.4, p.fit.5, p.fit.6);
      laid = p.laid;
      tabled = p.tabled;
      kept = i.2;
    }

pub returns-then-f : goal.returns-then-f
returns-then-f c =
    let i = c.loop-p.invariant in
    let l = c.look-f in
    record {
      opens = opens_found i.0 i.1 l.ensures.looked (omega (arith, c.if-f.true));
      kept_after = λ k h x b. l.ensures.kept_after k h x (omega (arith, l.ensures.looked.low, c.if-f.true));
    }

pub loop-p-smaller : goal.loop-p-smaller
loop-p-smaller c =
    omega (arith, c.look-f.ensures.looked.on (omega (arith, c.if-f.false)), c.loop-p-test.true)

pub loop-p-preserved : goal.loop-p-preserved
loop-p-preserved c =
    let i = c.loop-p.invariant in
    let l = c.look-f in
    (omega (arith, i.0, l.ensures.looked.low), none_to i.0 i.1 l.ensures.looked, λ k h x b. l.ensures.kept_after k h x (omega (arith, l.ensures.looked.low)))

pub returns : goal.returns
returns c =
    let p = c.requires in
    let i = c.loop-p.invariant in
    record {
      opens = opens_none p.fit.2 (omega (arith, c.loop-p-test.false)) i.1;
      kept_after = i.2;
    }
