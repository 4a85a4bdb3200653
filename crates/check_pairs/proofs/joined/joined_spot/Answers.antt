-- `check_pairs::joined::joined_spot` is that of the two stretches, with bounds that every v has.
use mathlib.Core.Path.{refl}
use lib.ListN.{get_or}
use mathlib.Core.List.{◌++◌}
use native.Mathlib.Omega.{arith}
use Rattle.pack_rules.specs.Stretch.{table_of, relations_in}
use Rattle.check_laws.proofs.Bounding.{unbounded}
use Rattle.check_laws.proofs.Flooring.{under_pair}
use Rattle.check_laws.proofs.Pairing.{joined_is}
use Rattle.check_laws.proofs.Profiles.{profile_pair}
use borrow.Author.Rules.{rules}
use Rattle.check_pairs.proofs.joined.joined_spot.Goals as goal

pub least_admitted-requires : goal.least_admitted-requires
least_admitted-requires c = let a = c.args in let T = table_of a.pack.now in let from = c.start_at-from in let to = c.stop_at-to in let start = c.start_at-start in let stop = c.stop_at-stop in let l = c.pair_floors-pair in (omega (arith, to.ensures), omega (arith, stop.ensures), profile_pair T a.pack.now.relations from.result to.result start.result stop.result a.k a.l (get_or a.profiles.now a.k 0) (get_or a.profiles.now a.l 0) _ from.ensures to.ensures start.ensures stop.ensures c.requires.profiles.0 c.requires.profiles.1 (search rules), under_pair T a.pack.now.relations a.floors.now.whole a.floors.now.part a.floors.now.tail l.result from.result to.result start.result stop.result a.k a.l from.ensures to.ensures start.ensures stop.ensures c.requires.in_room.2 c.requires.in_room.0 c.requires.in_room.1 l.ensures.0 l.ensures.1 l.ensures.2)

pub returns : goal.returns
returns c = let a = c.args in let T = table_of a.pack.now in let from = c.start_at-from in let to = c.stop_at-to in let start = c.start_at-start in let stop = c.stop_at-stop in (joined_is T a.pack.now.relations _ from.result to.result start.result stop.result a.k a.l from.ensures to.ensures start.ensures stop.ensures (unbounded (record { least = record { 0 = 0 }; most = record { 0 = 9 } }) refl refl (relations_in T from.result to.result ++ relations_in T start.result stop.result) _ c.least_admitted.ensures.0), c.least_admitted.ensures.1)
