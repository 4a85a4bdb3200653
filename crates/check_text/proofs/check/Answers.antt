-- `check_text::check` answers `check_pack`: by `bare_passes` where the pack is `other:` alone, else by reading it.
use mathlib.Core.Path.{sym, ◌∙◌}
use Rattle.check_text.proofs.Order.{bare_passes}
use Rattle.check_text.proofs.check.Goals as goal

pub returns-then-is_bare : goal.returns-then-is_bare
returns-then-is_bare c = bare_passes c.args.pack.now (sym c.is_bare.ensures ∙ c.if-is_bare.true)
