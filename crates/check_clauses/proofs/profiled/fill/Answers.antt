-- `check_clauses::profiled::fill` puts in those of each clause in turn. Invariant: those before are in.
use Rattle.pack_rules.specs.Stretch.{table_of}
use mathlib.Core.Path.{◌∙◌}
use native.Mathlib.Omega.{arith}
use Prim.Native.Nat.{◌<◌}
use lib.ListN.{length, set, length-set}
use lib.Seq.{get_or-set_same, get_or-set_other}
use Rattle.check_laws.proofs.Profiles.{profiled_more}
use Rattle.check_clauses.proofs.profiled.fill.Goals as goal

pub loop-j-preserved : goal.loop-j-preserved
loop-j-preserved c =
    let a = c.args in
    let l = c.loop-j in
    let p = c.profile_of.result in
    let h : l.j < length l.profiles = omega (arith, l.invariant.1, c.requires, c.loop-j-test.true) in
    (omega (arith, c.loop-j-test.true), length-set l.profiles l.j p ∙ l.invariant.1, profiled_more (table_of a.pack.now) a.pack.now.relations l.profiles (set l.profiles l.j p) l.j p l.invariant.2 c.profile_of.ensures (get_or-set_same l.profiles l.j p 0 h) (λ k n. get_or-set_other l.profiles l.j k p 0 n))
