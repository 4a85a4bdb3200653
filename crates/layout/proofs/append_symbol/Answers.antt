-- `layout::append_symbol` writes the bytes that the finder answers.
use Rattle.area.proofs.Pieces.{renamed}
use Rattle.layout.proofs.append_symbol.Goals as goal

pub returns : goal.returns
returns c = renamed c.find.ensures c.append.ensures
