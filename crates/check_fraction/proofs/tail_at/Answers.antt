-- `check_fraction::tail_at` takes the t that is known where f is not asked, and else searches.
use Rattle.pack_rules.specs.Stretch.{table_of}
use Rattle.check_laws.specs.Read.{joined_in}
use mathlib.Core.Path.{refl, sym, ◌∙◌}
use borrow.Author.Tests.{not-true}
use Rattle.check_laws.specs.Fast.{asks_of}
use Rattle.check_laws.proofs.Placing.{tail_once}
use Rattle.check_fraction.proofs.tail_at.Goals as goal

pub returns-then-spared : goal.returns-then-spared
returns-then-spared c = let a = c.args in let T = table_of a.pack.now in tail_once (joined_in T a.s) a.k a.t c.power.result c.min.result (asks_of 102 (joined_in T a.s)) c.requires.0 c.requires.3 refl (not-true _ (sym c.requires.4 ∙ c.if-spared.true)) c.power.ensures c.min.ensures
