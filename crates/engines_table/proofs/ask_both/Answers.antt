-- `engines_table::ask_both` asks two engines of one contract.
use Rattle.engines_table.proofs.Agree.{engines_agree}
use Rattle.engines_table.proofs.ask_both.Goals as goal

pub returns : goal.returns
returns c = (engines_agree c.args.pack.now c.check.result c.check-2.result c.check.ensures c.check-2.ensures, c.check-2.ensures)
