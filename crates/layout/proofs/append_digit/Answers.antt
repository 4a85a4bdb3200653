-- `layout::append_digit` writes the byte that an ASCII digit is.
use mathlib.Core.Path.{sym}
use Rattle.area.proofs.Pieces.{renamed}
use Rattle.layout.proofs.Spelling.{spell_ascii}
use Rattle.layout.proofs.append_digit.Goals as goal

pub returns : goal.returns
returns c = renamed (sym (spell_ascii c.args.b)) c.put.ensures
