-- `skip_white` goes over one code point of white space at a time.
use native.Mathlib.Omega.{arith}
use Rattle.pack_token.proofs.Skips.{skip_start, skip_more, skip_end, skip_out}
use Rattle.pack_token.proofs.skip_white.Goals as goal

pub loop-at-init : goal.loop-at-init
loop-at-init c = skip_start _ _

pub returns-then-n-eq0 : goal.returns-then-n-eq0
returns-then-n-eq0 c = skip_end _ _ _ c.loop-at.invariant c.white_len-n.ensures c.if-n-eq0.true

pub overflow_add-at : goal.overflow_add-at
overflow_add-at c =
    let z = skip_more _ _ _ _ c.loop-at.invariant c.loop-at-test.true c.white_len-n.ensures c.if-n-eq0.false in
    omega (arith, z.within)

pub loop-at-smaller : goal.loop-at-smaller
loop-at-smaller c =
    let z = skip_more _ _ _ _ c.loop-at.invariant c.loop-at-test.true c.white_len-n.ensures c.if-n-eq0.false in
    omega (arith, z.some, z.within)

pub loop-at-preserved : goal.loop-at-preserved
loop-at-preserved c = (skip_more _ _ _ _ c.loop-at.invariant c.loop-at-test.true c.white_len-n.ensures c.if-n-eq0.false).on

pub returns : goal.returns
returns c = skip_out _ _ _ c.loop-at.invariant c.loop-at-test.false
