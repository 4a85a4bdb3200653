-- `layout::append_items` writes item by item. The invariant: what is left to write, written from the place reached on, gives what the whole gives.
use Prim.Native.Nat.{◌≤◌}
use lib.ListN.{length}
use Rattle.area.specs.Area.{most}
use Rattle.area.proofs.Pieces.{Left}
use Rattle.pattern_token.specs.Items.{items_left, items}
use Rattle.symbols.specs.Entries.{symbol_in, standard_record}
use Rattle.layout.specs.Text.{rendered}
use Rattle.layout.proofs.append_items.Given as goal

abbrev pub invariant-loop-item : goal.invariant-loop-item
invariant-loop-item l =
    (l.k ≤ most) × (length l.initial.out ≤ most) × Left l.initial.out l.at (rendered (symbol_in l.house standard_record) (items l.s)) l.out l.k (rendered (symbol_in l.house standard_record) (items_left l.item-iterator))
