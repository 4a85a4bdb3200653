-- `check_pairs::joined::with_each` takes the earliest. Invariant: the best so far with that of the pairs left is that of all.
use native.Mathlib.Omega.{arith}
use mathlib.Core.Path.{refl, sym, ◌∙◌}
use Rattle.pack_rules.specs.Stretch.{table_of}
use Rattle.check_laws.specs.Spots.{spot_rank}
use Rattle.check_laws.proofs.Pairing.{each_more, each_end}
use borrow.Author.Rules.{rules}
use Rattle.check_pairs.proofs.joined.with_each.Goals as goal

pub loop-l-init : goal.loop-l-init
loop-l-init c = (refl, c.requires.in_room.2)

pub joined_spot-requires : goal.joined_spot-requires
joined_spot-requires c =
    let p = c.requires in
    record {
      in_room = (p.in_room.0, omega (arith, p.in_room.1, c.loop-l-test.true), p.in_room.3);
      profiles = (p.profiles.0, p.profiles.1 c.loop-l.l c.loop-l-test.true);
    }

pub earlier-best-requires : goal.earlier-best-requires
earlier-best-requires c = (c.loop-l.invariant.1, c.joined_spot.ensures.1)

pub loop-l-preserved : goal.loop-l-preserved
loop-l-preserved c =
    let a = c.args in
    let T = table_of a.pack.now in
    (sym (each_more T a.pack.now.relations a.k a.to (spot_rank c.loop-l.best) (spot_rank c.joined_spot.result) (spot_rank c.earlier-best.result) c.loop-l.l (search rules) c.joined_spot.ensures.0 c.earlier-best.ensures.0) ∙ c.loop-l.invariant.0, c.earlier-best.ensures.1)

pub returns : goal.returns
returns c =
    let a = c.args in
    let T = table_of a.pack.now in
    (sym (each_end T a.pack.now.relations a.k a.to (spot_rank c.loop-l.best) c.loop-l.l (search rules) c.loop-l.invariant.1.ranked) ∙ c.loop-l.invariant.0, c.loop-l.invariant.1)
