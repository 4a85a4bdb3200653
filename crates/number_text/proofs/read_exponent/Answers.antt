-- `number_text::read_exponent` answers what is read behind the fraction.
use Rattle.std.proofs.Common.{rules}
use Rattle.number_text.proofs.Cuts.{behind_first}
use Rattle.number_text.proofs.read_exponent.Goals as goal
use Rattle.number_text.proofs.read_exponent.Goals.{in-empty, in-len1-up}

pub returns : goal.returns
returns c =
    let e = behind_first c.args.s.now in
    elim c.if-s-lt1.branch [
      | in-empty w ↦ (let h = w.exponent-is in search rules)
      | in-len1-up w ↦ (let h = rw (w.exponent-is, e) at c.parted.ensures in let k = rw e at w.is_exponent.ensures in search rules)
    ]
