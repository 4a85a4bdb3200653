-- `check_pairs::joined::both_spot` takes the earliest. Invariant: the best so far with that of the clauses left is that of all.
use native.Mathlib.Omega.{arith}
use Rattle.check_laws.specs.Fast.{fast_rank, both_of}
use Rattle.pack_rules.specs.Stretch.{table_of, clauses_in}
use Rattle.check_laws.specs.Spots.{spot_rank}
use Rattle.check_laws.proofs.Pairing.{both_start, both_more, both_end}
use borrow.Author.Rules.{rules}
use Rattle.check_pairs.proofs.joined.both_spot.Goals as goal

pub loop-k-init : goal.loop-k-init
loop-k-init c =
    let a = c.args in
    let T = table_of a.pack.now in
    (both_start T a.pack.now.relations a.to a.start a.stop (spot_rank c.nowhere-best.result) a.from c.nowhere-best.ensures.0, c.nowhere-best.ensures.1)

pub with_each-best-requires : goal.with_each-best-requires
with_each-best-requires c =
    let p = c.requires in
    record {
      in_room = (omega (arith, p.in_room.0, c.loop-k-test.true), p.in_room.1, c.loop-k.invariant.1, p.in_room.2);
      profiles = (p.profiled.0 c.loop-k.k c.loop-k-test.true, p.profiled.1);
    }

pub loop-k-preserved : goal.loop-k-preserved
loop-k-preserved c =
    let a = c.args in
    let T = table_of a.pack.now in
    (both_more T a.pack.now.relations a.to a.start a.stop (spot_rank c.loop-k.best) (spot_rank c.with_each-best.result) c.loop-k.k (fast_rank (both_of (clauses_in T a.pack.now.relations a.from a.to) (clauses_in T a.pack.now.relations a.start a.stop))) (search rules) c.with_each-best.ensures.0 c.loop-k.invariant.0, c.with_each-best.ensures.1)

pub returns : goal.returns
returns c =
    let a = c.args in
    let T = table_of a.pack.now in
    (both_end T a.pack.now.relations a.to a.start a.stop (spot_rank c.loop-k.best) c.loop-k.k (fast_rank (both_of (clauses_in T a.pack.now.relations a.from a.to) (clauses_in T a.pack.now.relations a.start a.stop))) (search rules) c.loop-k.invariant.1.ranked c.loop-k.invariant.0, c.loop-k.invariant.1)
