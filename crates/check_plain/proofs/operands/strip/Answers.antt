-- `check_plain::operands::strip` takes zeros off one by one. Invariant: f is t with the zeros that were taken off.
use native.Mathlib.Omega.{arith}
use Rattle.check_plain.proofs.Trimming.{left_start, left_more, left_done, left_none}
use borrow.Author.Rules.{rules}
use Rattle.check_plain.proofs.operands.strip.Goals as goal

pub loop-w-init : goal.loop-w-init
loop-w-init c = left_start c.args.v c.args.f c.requires

pub returns-then-t-ne0 : goal.returns-then-t-ne0
returns-then-t-ne0 c =
    left_done c.args.v c.args.f c.loop-w.w c.loop-w.t c.requires (λ z. omega arith) c.if-t-ne0.true c.loop-w.invariant

pub loop-w-preserved : goal.loop-w-preserved
loop-w-preserved c =
    left_more c.args.v c.args.f c.loop-w.w c.loop-w.t (search rules) (search rules) c.loop-w.invariant

pub returns : goal.returns
returns c =
    left_none c.args.v c.args.f c.loop-w.w c.loop-w.t c.requires (search rules) c.loop-w.invariant
