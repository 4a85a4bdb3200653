-- `check_pairs::joined::pair_spot` is that of the two rules' clauses.
use native.Mathlib.Omega.{arith}
use Rattle.pack_rules.specs.Stretch.{table_of}
use Rattle.check_laws.proofs.Pairing.{pair_is}
use Rattle.check_pairs.proofs.joined.pair_spot.Goals as goal

pub both_spot-requires : goal.both_spot-requires
both_spot-requires c =
    let p = c.requires in
    let to = c.stop_at-to.ensures in
    let stop = c.stop_at-stop.ensures in
    record {
      in_room = (omega (arith, to), omega (arith, stop), p.in_room.2);
      profiled = (λ j h. p.profiled.0 j (omega (arith, to, h)), λ j h. p.profiled.1 j (omega (arith, stop, h)));
    }

pub returns : goal.returns
returns c =
    let a = c.args in
    let T = table_of a.pack.now in (
      pair_is T a.pack.now.relations a.pack.now.clauses _ c.start_at-from.result c.stop_at-to.result c.start_at-start.result c.stop_at-stop.result a.p a.q
          c.start_at-from.ensures c.stop_at-to.ensures c.start_at-start.ensures c.stop_at-stop.ensures c.both_spot.ensures.0,
      c.both_spot.ensures.1,
    )
