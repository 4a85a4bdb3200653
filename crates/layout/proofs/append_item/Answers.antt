-- `layout::append_item` writes what the item prints: its byte, its symbol, or nothing.
use mathlib.Core.Path.{ap}
use Rattle.area.proofs.Pieces.{renamed}
use Rattle.symbols.specs.Entries.{symbol_in, standard_record}
use Rattle.layout.proofs.append_item.Goals as goal

pub returns-in-Symbol : goal.returns-in-Symbol
returns-in-Symbol c = rw c.in-Symbol.is (renamed (ap (symbol_in c.args.house.now standard_record) c.symbol_of.ensures) c.append_symbol.ensures)
