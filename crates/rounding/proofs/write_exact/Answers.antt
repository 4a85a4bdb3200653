-- `rounding::write_exact` writes the number and multiplies it, unless it is to be taken once.
use native.Mathlib.Omega.{arith}
use mathlib.Core.Path.{◌≡◌, ap, ◌∙◌}
use Prim.Native.Nat.{◌+◌, ◌*◌}
use lib.ListN.{length}
use Rattle.decimal.specs.Digits.{figures}
use Rattle.rounding.proofs.Arithmetic.{scaled_written, whole_room}
use Rattle.rounding.proofs.write_exact.Goals as goal

pub returns-then-x-ne1 : goal.returns-then-x-ne1
returns-then-x-ne1 c =
    let a = c.args.x in
    let k = length c.args.d.now in
    let n = a.i * a.unit + a.f in
    let w = c.write_whole in
    let e : n * a.rise + 0 ≡ n * a.rise = omega arith in
    scaled_written k n a.rise 0 w.new.d c.scale.new.d (whole_room k a.unit a.i a.f c.requires.0 c.requires.2 c.requires.4 c.requires.5) w.ensures c.scale.ensures
    ∙ ap (figures k) e
