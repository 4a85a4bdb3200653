-- `number_text::read_point` cuts off the point and the digits behind it.
use mathlib.Core.Path.{◌≡◌}
use Rattle.std.proofs.Common.{rules}
use Rattle.std.specs.Prelude.{if◌then◌else◌}
use Rattle.decimal.specs.Digits.{run}
use Rattle.number_text.proofs.Cuts.{point_digits}
use Rattle.number_text.proofs.read_point.Goals as goal
use Rattle.number_text.proofs.read_point.Goals.{then-pointed, else-pointed}

pub read_exponent-requires : goal.read_exponent-requires
read_exponent-requires c =
    let p = c.begins_with-pointed.result in
    let t = c.after-behind.result.now in
    let n : c.if-pointed.n ≡ (if p then run t else 0) = elim c.if-pointed.branch [ then-pointed w ↦ search rules | else-pointed w ↦ search rules ] in
    (c.requires, rw c.upto.ensures (point_digits p t _ n))
