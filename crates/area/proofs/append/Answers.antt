-- `area::append` writes the bytes one by one. The invariant: what is left to write, written from the place reached on, gives what the whole gives.
use native.Mathlib.Omega.{arith}
use native.Mathlib.Numerals.{add-one}
use lib.ListN.{drop_of_length-le}
use lib.Seq.{drop-cons}
use Rattle.area.proofs.Pieces.{start, again, done}
use Rattle.area.proofs.append.Goals as goal

pub loop-b-init : goal.loop-b-init
loop-b-init c = (omega arith, omega arith, start _ _ _)

pub loop-b-preserved : goal.loop-b-preserved
loop-b-preserved c =
    let s = c.args.s.now in
    let l = c.loop-b in
    let p = c.put-next.ensures in
    (omega (arith, p.next), l.invariant.1, again l.invariant.1 l.invariant.2 (rw (add-one, drop-cons s l.b-index 0 c.loop-b-test.true)) p)

pub shape_of-out : goal.shape_of-out
shape_of-out c = c.loop-b.invariant.2.size

pub returns : goal.returns
returns c = done c.loop-b.invariant.0 c.loop-b.invariant.2 (drop_of_length-le _ c.loop-b-test.false)
