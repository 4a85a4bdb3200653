-- `layout::append_items` writes item by item. The invariant: what is left to write, written from the place reached on, gives what the whole gives.
use mathlib.Core.Path.{ap}
use native.Mathlib.Omega.{arith}
use Rattle.area.proofs.Pieces.{again}
use Rattle.symbols.specs.Entries.{symbol_in, standard_record}
use Rattle.layout.specs.Text.{rendered}
use Rattle.layout.proofs.append_items.Goals as goal

pub loop-item-preserved : goal.loop-item-preserved
loop-item-preserved c =
    let i = c.loop-item.invariant in
    let x = c.append_item-k.ensures in
    (omega (arith, x.next), i.1, again i.1 i.2 (ap (rendered (symbol_in c.args.house.now standard_record)) c.in-Some.ensures.steps) x)
