-- `rounding::round_digits` writes the exact value and rounds it.
use Prim.Native.Nat.{◌+◌, ◌*◌}
use lib.ListN.{length}
use Rattle.rounding.proofs.Arithmetic.{exact_room, rounded_is, digits_exact}
use Rattle.rounding.proofs.round_digits.Goals as goal

pub round_by-requires : goal.round_by-requires
round_by-requires c =
    let a = c.args in
    let x = a.x in
    let w = c.write_exact in
    (c.requires.6, c.requires.7, c.requires.8, c.requires.9, digits_exact (length a.d.now) ((x.i * x.unit + x.f) * x.rise) w.new.d w.ensures)

pub returns : goal.returns
returns c =
    let a = c.args in
    let x = a.x in
    let p = c.requires in
    let k = length a.d.now in
    let w = c.write_exact in
    rounded_is k ((x.i * x.unit + x.f) * x.rise) a.step a.scaled w.new.d c.round_by.new.d
    (exact_room k x.unit x.rise x.i x.f p.0 p.2 p.3 p.4 p.5) w.ensures c.round_by.ensures
