-- `check_plain::operands::number_at` has w and t from what is left of f.
use Rattle.check_plain.proofs.operands.number_at.Goals as goal

pub returns : goal.returns
returns c = rw (c.strip-part.ensures.0, c.strip-part.ensures.1)
