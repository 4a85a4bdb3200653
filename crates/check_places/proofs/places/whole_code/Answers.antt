-- `check_places::places::whole_code`: there is such a v only where f may be 0.
use native.Mathlib.Omega.{arith}
use borrow.Author.Tests.{not-true, not-false}
use Rattle.check_laws.proofs.Placing.{whole_none, whole_some}
use Rattle.check_laws.proofs.Profiles.{profile_settled}
use Rattle.check_places.proofs.places.whole_code.Goals as goal

pub returns-then-not-allows_zero : goal.returns-then-not-allows_zero
returns-then-not-allows_zero c = λ x h. whole_none x c.allows_zero.result (c.allows_zero.ensures x h) (not-true _ c.if-not-allows_zero.true-raw)

pub overflow_mul-result : goal.overflow_mul-result
overflow_mul-result c = omega (arith, c.whole_places-v.ensures.1)

pub returns : goal.returns
returns c = λ x h. whole_some x c.allows_zero.result c.whole_places-v.result (c.allows_zero.ensures x h) (not-false _ c.if-not-allows_zero.false-raw) (c.whole_places-v.ensures.0 x (profile_settled x c.args.p h _ _ c.v_of.ensures c.w_of.ensures))
