-- `rounding::word_of`: no product and no sum on the way is above the value or the largest word.
use mathlib.Core.Path.{refl}
use native.Mathlib.Omega.{arith}
use Rattle.rounding.proofs.Words.{word_room}
use Rattle.rounding.proofs.word_of.Goals as goal

pub overflow_mul-result : goal.overflow_mul-result
overflow_mul-result c = omega (arith, (word_room c.args.x.unit c.args.x.rise c.args.x.i c.args.x.f c.requires).whole)

pub overflow_add-result : goal.overflow_add-result
overflow_add-result c = omega (arith, (word_room c.args.x.unit c.args.x.rise c.args.x.i c.args.x.f c.requires).sum)

pub overflow_mul-result-2 : goal.overflow_mul-result-2
overflow_mul-result-2 c = omega (arith, (word_room c.args.x.unit c.args.x.rise c.args.x.i c.args.x.f c.requires).value)

pub returns : goal.returns
returns c = (refl, (word_room c.args.x.unit c.args.x.rise c.args.x.i c.args.x.f c.requires).value)
