-- `held_before` searches the first n.
use mathlib.Core.Path.{ap, ◌∙◌}
use Rattle.pack_faults.specs.Faults.{held}
use Rattle.pack_faults.proofs.Searches.{any_held}
use Rattle.pack_faults.proofs.held_before.Goals as goal

pub returns : goal.returns
returns c = c.contains.ensures.value ∙ any_held c.args.key _ ∙ ap (held c.args.key) c.upto.ensures
