-- `check_places::places::opens` looks for the least w that is left. Invariant: none before is.
use Prim.Native.Nat.{◌/◌, ◌^◌}
use native.Mathlib.Omega.{arith}
use borrow.Author.Tests.{eqb-true, not-false}
use Rattle.check_laws.proofs.Profiles.{profile_shut, profile_below}
use Rattle.check_places.proofs.places.opens.Goals as goal

pub returns-then-is_marked : goal.returns-then-is_marked
returns-then-is_marked c = λ e x h. profile_below x c.args.vs c.args.ws h c.loop-w.w c.loop-w.invariant.2 (eqb-true (c.args.vs / 2 ^ c.loop-w.w) 0 (not-false _ e))

pub returns : goal.returns
returns c = λ e x h. profile_shut x c.args.vs c.args.ws h (λ k a b. c.loop-w.invariant.2 k a (omega (arith, c.loop-w-test.false)))
