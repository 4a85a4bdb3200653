-- `select::mask::met_at` asks the condition between the rule's two places.
use mathlib.Core.Path.{◌∙◌}
use Rattle.select.proofs.mask.met_at.Goals as goal

pub returns : goal.returns
returns c = c.condition_holds.ensures ∙ rw (c.start_at.ensures, c.stop_at.ensures)
